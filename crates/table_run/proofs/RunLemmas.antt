-- What a run does to a desk and a store, put together from the reading of texts and the saying of lines.
use Rattle.std.proofs.Common.{◌≡◌, ◌≢◌, ◌⊎◌, ◌∙◌, inl, inr, ℕ, ◌≤◌, List, [], ◌∷◌, true, false, Option, None, Some, Result, Ok, Err, refl, sym, ap, subst, arith}
use Rattle.basics.specs.Told.{Rose, RoseIf, told_more}
use Rattle.json_fields.specs.Answer.{IsOnly}
use Rattle.outside.specs.Desk.{DeskSeen, SaidFront, SaidLines, SaysOnly, Texts}
use Rattle.outside.specs.Feed.{Left, RefusesTexts, anything, behind_line, nothing_left}
use Rattle.outside.specs.Rows.{RowsByTable, RowsSeen}
use Rattle.outside.specs.Status.{config_status}
use Rattle.outside.specs.declared.fault.Fault.{Fault}
use Rattle.outside.specs.declared.fault.Fault.TheVariants as fault
use Rattle.outside.specs.declared.faults.ConfigFault.{ConfigFault}
use Rattle.outside.specs.declared.faults.ConfigFault.TheVariants as config
use Rattle.outside.specs.declared.status.Status.{Status}
use Rattle.outside.specs.declared.status.Status.TheVariants as status
use Rattle.outside.proofs.Says.{none_or_one, told_more-none}
use Rattle.cli_words.specs.Connectors.{SourceAsked}
use Rattle.say_feed.specs.Said.{EndsLine, SaysFeed, WritesOut}
use Rattle.say_feed.specs.Said as feed
use Rattle.table_config.specs.Config.{ReadsConfig}
use Rattle.table_config.specs.declared.config.TableConfig.{TableConfig}
use Rattle.table_source.specs.Discovered.{discover_line}
use Rattle.table_run.specs.Begun.{MaySayBegun, SaysBegun}
use Rattle.table_run.specs.Runs.{BadConfig, CannotOpen, Config, CouldNotOpen, EndsBy, EndsLate, EndsSaid, IsChecked, IsEarly, IsGiven, IsOpened, IsTextUnder, MayByConfig, MayCheck, MayDiscover, MayDiscoverBy, MayRead, MayReadBy, MayReadTables, MaySay, MaySayOne, NoConfig, Outside, ReadsOnly, ReadsUnder, RunsAs, SaysRun, Succeeded, WasOpened, is_lines_end, is_source_end, outside_of, read_status}
use Rattle.table_run.specs.declared.run.Given.{Given}
use Rattle.table_run.proofs.EndLemmas.{config_end, tables_end}

-- ---- counts

later_rose : (old mid new : ℕ) → old ≤ mid → Rose mid new → Rose old new
later_rose old mid new kept rose = omega arith

rose_still : (old mid new : ℕ) → mid ≤ new → Rose old mid → Rose old new
rose_still old mid new kept rose = omega arith

never_rises : {P : Type 0} (count : ℕ) → ¬ P → RoseIf P count count
never_rises count never = record { kept = omega arith; rose = λ p. absurd (never p) }

-- ---- a feed that is begun

pub begun : (result : Status) (May : Left → Type 0) (MayBegin : Result Left Status → Type 0) (rows rows_mid rows_now : ℕ) (old new : DeskSeen) → rows_mid ≡ rows → ((left : Left) → May left → MayBegin (Ok left))
    → SaysFeed result May rows_mid rows_now old new → SaysBegun result MayBegin rows rows_now old new
begun result May MayBegin rows rows_mid rows_now old new same from says = record {
  left = says.left;
  may = inr (Ok says.left, from says.left says.may, refl);
  said = says.said;
  ends = subst (λ (n : ℕ). feed.EndsBy result says.left.ends n rows_now old.say_faults new.say_faults) same says.ends;
}

pub not_begun : (why : Status) (May : List ℕ → List ℕ → Result Left Status → Type 0) (catalog states : List ℕ) (rows rows_now : ℕ) (desk : DeskSeen) → RefusesTexts May catalog states why → (why ≡ status.RowFault → Rose rows rows_now)
    → SaysBegun why (May catalog states) rows rows_now desk desk
not_begun why May catalog states rows rows_now desk (inl memory) rose = record { left = anything; may = inl refl; said = sym (told_more-none desk.said); ends = inr (inl memory) }
not_begun why May catalog states rows rows_now desk (inr (inl lost)) rose = record { left = anything; may = inl refl; said = sym (told_more-none desk.said); ends = inr (inr (inl (lost, rose lost))) }
not_begun why May catalog states rows rows_now desk (inr (inr refused)) rose = record { left = nothing_left why; may = inr (Err why, refused, refl); said = sym (told_more-none desk.said); ends = inl refl }

-- ---- reading

pub none_read : (failed : Type 0) (seen : DeskSeen) → ¬ failed → ReadsOnly failed seen seen
none_read failed seen fine = record { faults = never_rises seen.read_faults fine; others = refl }

pub read_then : (first second : Type 0) (old mid new : DeskSeen) → ReadsOnly first old mid → ReadsOnly second mid new → ReadsOnly second old new
read_then first second old mid new before after = record {
  faults = record {
    kept = omega (arith, before.faults.kept, after.faults.kept);
    rose = λ f. later_rose old.read_faults mid.read_faults new.read_faults before.faults.kept (after.faults.rose f);
  };
  others = after.others ∙ ap (λ (d : DeskSeen). record d { read_faults = new.read_faults }) before.others;
}

pub read_where : (failed other : Type 0) (old new : DeskSeen) → (other → failed) → ReadsOnly failed old new → ReadsOnly other old new
read_where failed other old new same reads = record { faults = record { kept = reads.faults.kept; rose = λ o. reads.faults.rose (same o) }; others = reads.others }

pub texts_read : (failed : Type 0) (old new : DeskSeen) → ReadsOnly failed old new → new.texts ≡ old.texts
texts_read failed old new reads = ap (λ (d : DeskSeen). d.texts) reads.others

-- ---- a run that ends at once

-- it ends before anything that the texts say
pub no_memory : (May : Type 0 → Type 0 → Left → Type 0) (seen : Outside) → RunsAs status.NoMemory May seen seen
no_memory May seen = record {
  says = record { left = anything; may = inl refl; said = sym (told_more-none seen.desk.said); ends = inr (inl refl) };
  read_faults = never_rises seen.desk.read_faults (λ e. cc);
  row_faults = never_rises seen.rows.faults (λ e. cc);
  say_faults = never_rises seen.desk.say_faults (λ e. cc);
  say_stays = λ w. refl;
  texts = refl;
}

-- the texts end it so
pub ends_now : (why : Status) (May : Type 0 → Type 0 → Left → Type 0) (seen : Outside) → why ≢ status.FileFault → why ≢ status.RowFault → why ≢ status.WriteFault → May (WasOpened seen seen) (CouldNotOpen seen seen) (nothing_left why) → RunsAs why May seen seen
ends_now why May seen file row write may = record {
  says = record { left = nothing_left why; may = inr may; said = sym (told_more-none seen.desk.said); ends = inl refl };
  read_faults = never_rises seen.desk.read_faults file;
  row_faults = never_rises seen.rows.faults row;
  say_faults = never_rises seen.desk.say_faults write;
  say_stays = λ w. refl;
  texts = refl;
}

-- a status that the texts may end a run with is none of the outside's faults
pub not_file : (why : Status) → is_source_end why ≡ true → why ≢ status.FileFault
not_file why own e = let same = ap is_source_end e in cc

pub not_row : (why : Status) → is_source_end why ≡ true → why ≢ status.RowFault
not_row why own e = let same = ap is_source_end e in cc

pub not_write : (why : Status) → is_source_end why ≡ true → why ≢ status.WriteFault
not_write why own e = let same = ap is_source_end e in cc

pub not_usage : (why : Status) → is_source_end why ≡ true → why ≢ status.Usage
not_usage why own e = let same = ap is_source_end e in cc

told_none : (why : Status) (found : ConfigFault) (text : List ℕ) (MayBy : TableConfig → Left → Type 0) (seen : Outside) → why ≡ config_status found → IsOnly (ReadsConfig text) (Err found)
    → RunsAs why (λ opened failed. MayByConfig text MayBy) seen seen
told_none why found text MayBy seen is reads =
    let own : is_source_end why ≡ true = ap is_source_end is ∙ config_end found in
    ends_now why (λ opened failed. MayByConfig text MayBy) seen (not_file why own) (not_row why own) (not_write why own) (BadConfig found reads (ap nothing_left is))

-- a configuration's text is none
pub no_config : (why : Status) (found : ConfigFault) (text : List ℕ) (MayBy : TableConfig → Left → Type 0) (seen : Outside) → why ≡ config_status found → (found ≢ config.NoMemory → IsOnly (ReadsConfig text) (Err found))
    → RunsAs why (λ opened failed. MayByConfig text MayBy) seen seen
no_config why config.NoMemory text MayBy seen is refused = subst (λ (w : Status). RunsAs w (λ opened failed. MayByConfig text MayBy) seen seen) (sym is) (no_memory (λ opened failed. MayByConfig text MayBy) seen)
no_config why config.NotJson text MayBy seen is refused = told_none why config.NotJson text MayBy seen is (refused (λ e. cc))
no_config why config.Missing text MayBy seen is refused = told_none why config.Missing text MayBy seen is (refused (λ e. cc))
no_config why config.OutOfRange text MayBy seen is refused = told_none why config.OutOfRange text MayBy seen is (refused (λ e. cc))

-- a text could not be read
pub not_read : (found : Fault) (May : Type 0 → Type 0 → Left → Type 0) (failed : Type 0) (old new : DeskSeen) (rows : RowsSeen) → (found ≡ fault.Failed → failed) → ReadsOnly failed old new → RunsAs (read_status found) May (outside_of old rows) (outside_of new rows)
not_read found May failed old new rows fails reads = record {
  says = record { left = anything; may = inl refl; said = ap (λ (d : DeskSeen). d.said) reads.others ∙ sym (told_more-none old.said); ends = cause found fails };
  read_faults = record { kept = reads.faults.kept; rose = λ e. reads.faults.rose (fails (file found e)) };
  row_faults = never_rises rows.faults (row found);
  say_faults = record { kept = omega (arith, ap (λ (d : DeskSeen). d.say_faults) reads.others); rose = λ e. absurd (write found e) };
  say_stays = λ w. ap (λ (d : DeskSeen). d.say_faults) reads.others;
  texts = ap (λ (d : DeskSeen). d.texts) reads.others;
}
  where
    cause : (f : Fault) → (f ≡ fault.Failed → failed) → EndsBy (read_status f) None (outside_of old rows) (outside_of new rows)
    cause fault.Failed fs = inr (inr (inl (refl, reads.faults.rose (fs refl))))
    cause fault.NoMemory fs = inr (inl refl)

    file : (f : Fault) → read_status f ≡ status.FileFault → f ≡ fault.Failed
    file fault.Failed e = refl
    file fault.NoMemory e = absurd (cc)

    row : (f : Fault) → read_status f ≡ status.RowFault → ⊥
    row fault.Failed e = cc
    row fault.NoMemory e = cc

    write : (f : Fault) → read_status f ≡ status.WriteFault → ⊥
    write fault.Failed e = cc
    write fault.NoMemory e = cc

-- ---- a run behind the reading of texts and the opening of a store

pub runs_behind : (result : Status) (Before After : Type 0 → Type 0 → Left → Type 0) (old mid new : Outside) → ReadsOnly ⊥ old.desk mid.desk → old.rows.faults ≤ mid.rows.faults
    → ((left : Left) → After (WasOpened mid new) (CouldNotOpen mid new) left → Before (WasOpened old new) (CouldNotOpen old new) left) → RunsAs result After mid new → RunsAs result Before old new
runs_behind result Before After old mid new reads rows from runs = record {
  says = record {
    left = runs.says.left;
    may = may runs.says.may;
    said = runs.says.said ∙ ap (λ (d : DeskSeen). told_more runs.says.left.lines d.said) reads.others;
    ends = cause runs.says.ends;
  };
  read_faults = record {
    kept = omega (arith, reads.faults.kept, runs.read_faults.kept);
    rose = λ e. later_rose old.desk.read_faults mid.desk.read_faults new.desk.read_faults reads.faults.kept (runs.read_faults.rose e);
  };
  row_faults = record {
    kept = omega (arith, rows, runs.row_faults.kept);
    rose = λ e. later_rose old.rows.faults mid.rows.faults new.rows.faults rows (runs.row_faults.rose e);
  };
  say_faults = subst (λ (n : ℕ). RoseIf (result ≡ status.WriteFault) n new.desk.say_faults) said_so runs.say_faults;
  say_stays = λ w. runs.say_stays w ∙ said_so;
  texts = runs.texts ∙ ap (λ (d : DeskSeen). d.texts) reads.others;
}
  where
    said_so : mid.desk.say_faults ≡ old.desk.say_faults
    said_so = ap (λ (d : DeskSeen). d.say_faults) reads.others

    may : (runs.says.left ≡ anything) ⊎ After (WasOpened mid new) (CouldNotOpen mid new) runs.says.left → (runs.says.left ≡ anything) ⊎ Before (WasOpened old new) (CouldNotOpen old new) runs.says.left
    may (inl none) = inl none
    may (inr is) = inr (from runs.says.left is)

    cause : EndsBy result runs.says.left.ends mid new → EndsBy result runs.says.left.ends old new
    cause (inl is) = inl is
    cause (inr (inl memory)) = inr (inl memory)
    cause (inr (inr (inl file))) = inr (inr (inl (file.0, later_rose old.desk.read_faults mid.desk.read_faults new.desk.read_faults reads.faults.kept file.1)))
    cause (inr (inr (inr (inl row)))) = inr (inr (inr (inl (row.0, later_rose old.rows.faults mid.rows.faults new.rows.faults rows row.1))))
    cause (inr (inr (inr (inr write)))) = inr (inr (inr (inr (write.0, subst (λ (n : ℕ). Rose n new.desk.say_faults) said_so write.1))))

-- the same run may say more
pub runs_so : (result : Status) (Before After : Type 0 → Type 0 → Left → Type 0) (old new : Outside) → ((left : Left) → After (WasOpened old new) (CouldNotOpen old new) left → Before (WasOpened old new) (CouldNotOpen old new) left)
    → RunsAs result After old new → RunsAs result Before old new
runs_so result Before After old new from runs = runs_behind result Before After old old new (none_read ⊥ old.desk (λ f. f)) (omega arith) from runs

-- ---- a run that says one line

pub one_said : (result : Status) (line : List ℕ) (failed : Type 0) (old mid new : DeskSeen) (rows : RowsSeen) → ¬ failed → SaidLines (line ∷ []) old mid → SaysOnly failed old mid → mid.say_faults ≡ old.say_faults → WritesOut status.Ok result mid new
    → RunsAs result (λ opened failed. MaySayOne line) (outside_of old rows) (outside_of new rows)
one_said result line failed old mid new rows fine said only stays out = record {
  says = record {
    left = behind_line line (left_by out.is);
    may = inr (may_by out.is);
    said = ap (λ (d : DeskSeen). d.said) out.others ∙ (said ∙ ap (λ (l : Left). told_more l.lines old.said) (same_lines out.is));
    ends = ends_by out.is;
  };
  read_faults = record { kept = omega (arith, reads); rose = λ e. absurd (file e out.is) };
  row_faults = never_rises rows.faults (λ e. row e out.is);
  say_faults = subst (λ (n : ℕ). RoseIf (result ≡ status.WriteFault) n new.say_faults) stays (record { kept = out.kept; rose = λ e. rose e out.is });
  say_stays = λ w. out.stays w ∙ stays;
  texts = ap (λ (d : DeskSeen). d.texts) out.others ∙ only.texts;
}
  where
    Is : Type 0
    Is = (result ≡ status.Ok) ⊎ ((result ≡ status.WriteFault) × Rose mid.say_faults new.say_faults)

    reads : new.read_faults ≡ old.read_faults
    reads = ap (λ (d : DeskSeen). d.read_faults) out.others ∙ only.read_faults

    left_by : Is → Left
    left_by (inl ok) = nothing_left status.Ok
    left_by (inr write) = anything

    may_by : (is : Is) → MaySayOne line (behind_line line (left_by is))
    may_by (inl ok) = inr refl
    may_by (inr write) = inl refl

    same_lines : (is : Is) → behind_line line anything ≡ behind_line line (record (left_by is) { ends = None })
    same_lines (inl ok) = refl
    same_lines (inr write) = refl

    ends_by : (is : Is) → EndsBy result (behind_line line (left_by is)).ends (outside_of old rows) (outside_of new rows)
    ends_by (inl ok) = inl (ap (λ (s : Status). Some s) (sym ok))
    ends_by (inr write) = inr (inr (inr (inr (write.0, subst (λ (n : ℕ). Rose n new.say_faults) stays write.1))))

    file : result ≡ status.FileFault → Is → ⊥
    file e (inl ok) = cc
    file e (inr write) = let w = write.0 in cc

    row : result ≡ status.RowFault → Is → ⊥
    row e (inl ok) = cc
    row e (inr write) = let w = write.0 in cc

    rose : result ≡ status.WriteFault → Is → Rose mid.say_faults new.say_faults
    rose e (inl ok) = absurd (cc)
    rose e (inr write) = write.1

pub one_cause : (result : Status) (mid new : DeskSeen) → WritesOut status.Ok result mid new → EndsSaid result
one_cause result mid new out = by out.is
  where
    by : (result ≡ status.Ok) ⊎ ((result ≡ status.WriteFault) × Rose mid.say_faults new.say_faults) → EndsSaid result
    by (inl ok) = inl ok
    by (inr write) = inr (inr write.0)

-- it was not said
pub one_not_said : (why : Status) (line : List ℕ) (failed : Type 0) (old new : DeskSeen) (rows : RowsSeen) → (why ≡ status.WriteFault → failed) → EndsLine why → SaidFront failed (line ∷ []) old new → (¬ failed → new.say_faults ≡ old.say_faults)
    → (failed → why ≡ status.WriteFault) → RunsAs why (λ opened failed. MaySayOne line) (outside_of old rows) (outside_of new rows)
one_not_said why line failed old new rows fails cause front stays back = record {
  says = by (none_or_one line old.said new.said front.front);
  read_faults = record { kept = omega (arith, front.only.read_faults); rose = λ e. absurd (file e cause) };
  row_faults = never_rises rows.faults (λ e. row e cause);
  say_faults = record { kept = front.only.faults.kept; rose = λ e. front.only.faults.rose (fails e) };
  say_stays = λ w. stays (λ f. w (back f));
  texts = front.only.texts;
}
  where
    file : why ≡ status.FileFault → EndsLine why → ⊥
    file e (inl memory) = cc
    file e (inr write) = cc

    row : why ≡ status.RowFault → EndsLine why → ⊥
    row e (inl memory) = cc
    row e (inr write) = cc

    ended : EndsLine why → EndsBy why None (outside_of old rows) (outside_of new rows)
    ended (inl memory) = inr (inl memory)
    ended (inr write) = inr (inr (inr (inr (write, front.only.faults.rose (fails write)))))

    by : (new.said ≡ old.said) ⊎ (new.said ≡ told_more (line ∷ []) old.said) → SaysRun why (MaySayOne line) (outside_of old rows) (outside_of new rows)
    by (inl none) = record { left = anything; may = inl refl; said = none ∙ sym (told_more-none old.said); ends = ended cause }
    by (inr one) = record { left = behind_line line anything; may = inr (inl refl); said = one; ends = ended cause }

pub line_cause : (why : Status) → EndsLine why → EndsSaid why
line_cause why (inl memory) = inr (inl memory)
line_cause why (inr write) = inr (inr write)

-- ---- a run that says the lines of tables

pub tables_said : (result : Status) (told : Option RowsByTable) (moment : ℕ) (config : TableConfig) (catalog states : List ℕ) (MayBegin : Result Left Status → Type 0) (old new : Outside)
    → ((left : Left) → MaySayBegun MayBegin left → MayReadTables told moment config catalog states left) → SaysBegun result MayBegin old.rows.faults new.rows.faults old.desk new.desk
    → old.rows.faults ≤ new.rows.faults → SaysOnly ⊥ old.desk new.desk → (¬ (result ≡ status.WriteFault) → new.desk.say_faults ≡ old.desk.say_faults)
    → RunsAs result (λ opened failed. MayReadTables told moment config catalog states) old new × EndsLate result
tables_said result told moment config catalog states MayBegin old new from says rows only stays = (
  record {
    says = record { left = says.left; may = may says.may; said = says.said; ends = cause says.ends };
    read_faults = record { kept = omega (arith, only.read_faults); rose = λ e. absurd (file e says.ends) };
    row_faults = record { kept = rows; rose = λ e. row e says.ends };
    say_faults = record { kept = only.faults.kept; rose = λ e. write e says.ends };
    say_stays = stays;
    texts = only.texts;
  },
  late says.ends,
)
  where
    Ends : Type 0
    Ends = feed.EndsBy result says.left.ends old.rows.faults new.rows.faults old.desk.say_faults new.desk.say_faults

    may : (says.left ≡ anything) ⊎ MaySayBegun MayBegin says.left → (says.left ≡ anything) ⊎ MayReadTables told moment config catalog states says.left
    may (inl none) = inl none
    may (inr is) = inr (from says.left is)

    cause : Ends → EndsBy result says.left.ends old new
    cause (inl is) = inl is
    cause (inr (inl memory)) = inr (inl memory)
    cause (inr (inr (inl lost))) = inr (inr (inr (inl lost)))
    cause (inr (inr (inr wrote))) = inr (inr (inr (inr wrote)))

    by_may : (says.left ≡ anything) ⊎ MaySayBegun MayBegin says.left → says.left.ends ≡ Some result → is_lines_end result ≡ true
    by_may (inl none) is = absurd (none_some (sym (ap (λ (l : Left). l.ends) none) ∙ is))
      where
        none_some : ¬ (◌≡◌ {A = Option Status} None (Some result))
        none_some e = cc
    by_may (inr begun) is = tables_end told moment config catalog states says.left (from says.left begun) result is

    ended : (why : Status) → result ≡ why → is_lines_end why ≡ false → says.left.ends ≡ Some result → ⊥
    ended why e other is = let own = by_may says.may is in let same = ap is_lines_end e in cc

    file : result ≡ status.FileFault → Ends → ⊥
    file e (inl is) = ended status.FileFault e refl is
    file e (inr (inl memory)) = cc
    file e (inr (inr (inl lost))) = let l = lost.0 in cc
    file e (inr (inr (inr wrote))) = let w = wrote.0 in cc

    late : Ends → EndsLate result
    late (inl is) = inl (by_may says.may is)
    late (inr (inl memory)) = inl (ap is_lines_end memory)
    late (inr (inr (inl lost))) = inr (inl lost.0)
    late (inr (inr (inr wrote))) = inr (inr wrote.0)

    row : result ≡ status.RowFault → Ends → Rose old.rows.faults new.rows.faults
    row e (inl is) = absurd (ended status.RowFault e refl is)
    row e (inr (inl memory)) = absurd (cc)
    row e (inr (inr (inl lost))) = lost.1
    row e (inr (inr (inr wrote))) = let w = wrote.0 in absurd (cc)

    write : result ≡ status.WriteFault → Ends → Rose old.desk.say_faults new.desk.say_faults
    write e (inl is) = absurd (ended status.WriteFault e refl is)
    write e (inr (inl memory)) = absurd (cc)
    write e (inr (inr (inl lost))) = let l = lost.0 in absurd (cc)
    write e (inr (inr (inr wrote))) = wrote.1

pub late_not_usage : (result : Status) → EndsLate result → result ≢ status.Usage
late_not_usage result (inl lines) e = let same = ap is_lines_end e in cc
late_not_usage result (inr (inl row)) e = cc
late_not_usage result (inr (inr write)) e = cc

pub late_not_early : (result : Status) → EndsLate result → IsEarly result → ⊥
late_not_early status.FileFault (inl lines) early = cc
late_not_early status.FileFault (inr (inl row)) early = cc
late_not_early status.FileFault (inr (inr write)) early = cc
late_not_early (status.BadConfig fault) (inl lines) early = cc
late_not_early (status.BadConfig fault) (inr (inl row)) early = cc
late_not_early (status.BadConfig fault) (inr (inr write)) early = cc
late_not_early other late early = early

-- ---- the command `check`

-- the line is said behind what was done
pub checked_run : (result : Status) (config line : List ℕ) (old mid new : Outside) → IsChecked (WasOpened old mid) (CouldNotOpen old mid) old.desk.texts config line → ReadsOnly ⊥ old.desk mid.desk → old.rows.faults ≤ mid.rows.faults
    → new.desk.read_faults ≡ mid.desk.read_faults → new.rows ≡ mid.rows → RunsAs result (λ opened failed. MaySayOne line) mid new → RunsAs result (λ opened failed. MayCheck opened failed old.desk.texts config) old new
checked_run result config line old mid new is reads rows same_reads same_rows runs =
    runs_behind result (λ opened failed. MayCheck opened failed old.desk.texts config) (λ opened failed. MaySayOne line) old mid new reads rows (λ left says. (line, shown, says)) runs
  where
    opened : WasOpened old mid → WasOpened old new
    opened rose = subst (λ (r : RowsSeen). Rose old.rows.opens r.opens) (sym same_rows) rose

    failed : CouldNotOpen old mid → CouldNotOpen old new
    failed (inl read) = inl (subst (λ (n : ℕ). Rose old.desk.read_faults n) (sym same_reads) read)
    failed (inr row) = inr (subst (λ (r : RowsSeen). Rose old.rows.faults r.faults) (sym same_rows) row)

    by : IsChecked (WasOpened old mid) (CouldNotOpen old mid) old.desk.texts config line → IsChecked (WasOpened old new) (CouldNotOpen old new) old.desk.texts config line
    by (CannotOpen why line_is) = CannotOpen (failed why) line_is
    by (NoConfig why read line_is) = NoConfig why read line_is
    by (Succeeded read under rose line_is) = Succeeded read under (opened rose) line_is

    shown : IsChecked (WasOpened old new) (CouldNotOpen old new) old.desk.texts config line
    shown = by is

-- the store was opened, or not
pub store_checked : (config line : List ℕ) (read : TableConfig) (old new : Outside) → ReadsUnder old.desk.texts config (Ok read) → IsOpened (Rose old.rows.opens new.rows.opens) (Rose old.rows.faults new.rows.faults) line
    → IsChecked (WasOpened old new) (CouldNotOpen old new) old.desk.texts config line
store_checked config line read old new under (inl is) = Succeeded read under is.0 is.1
store_checked config line read old new under (inr is) = CannotOpen (inr is.0) is.1

-- ---- want of memory behind what was done

pub no_memory_behind : (May : Type 0 → Type 0 → Left → Type 0) (old new : Outside) → ReadsOnly ⊥ old.desk new.desk → old.rows.faults ≤ new.rows.faults → RunsAs status.NoMemory May old new
no_memory_behind May old new reads rows = runs_behind status.NoMemory May (λ opened failed left. ⊥) old new new reads rows (λ left none. absurd none) (no_memory (λ opened failed left. ⊥) new)

-- ---- the command `discover`

pub discovered_run : (result : Status) (text line : List ℕ) (config : TableConfig) (old new : Outside) → IsOnly (ReadsConfig text) (Ok config) → line ≡ discover_line config → RunsAs result (λ opened failed. MaySayOne line) old new
    → RunsAs result (λ opened failed. MayDiscover text) old new
discovered_run result text line config old new reads is runs =
    runs_so result (λ opened failed. MayDiscover text) (λ opened failed. MaySayOne line) old new (λ left says. Config config reads (subst (λ (l : List ℕ). MaySayOne l left) is says)) runs

pub discovered_behind : (result : Status) (config text : List ℕ) (old mid new : DeskSeen) (rows : RowsSeen) → ReadsOnly ⊥ old mid → IsTextUnder old.texts config text → RunsAs result (λ opened failed. MayDiscover text) (outside_of mid rows) (outside_of new rows)
    → RunsAs result (λ opened failed. MayDiscoverBy old.texts config) (outside_of old rows) (outside_of new rows)
discovered_behind result config text old mid new rows reads under runs =
    runs_behind result (λ opened failed. MayDiscoverBy old.texts config) (λ opened failed. MayDiscover text) (outside_of old rows) (outside_of mid rows) (outside_of new rows) reads (omega arith) (λ left may. (text, under, may)) runs

-- ---- the command `read`

pub read_run : (result : Status) (given : Given) (told : Option RowsByTable) (moment : ℕ) (config : TableConfig) (old new : Outside) → IsOnly (ReadsConfig given.config) (Ok config)
    → RunsAs result (λ opened failed. MayReadTables told moment config given.catalog given.states) old new → RunsAs result (λ opened failed. MayRead told moment given) old new
read_run result given told moment config old new reads runs =
    runs_so result (λ opened failed. MayRead told moment given) (λ opened failed. MayReadTables told moment config given.catalog given.states) old new (λ left may. Config config reads may) runs

pub read_behind : (result : Status) (config catalog : List ℕ) (state : Option (List ℕ)) (given : Given) (told : Option RowsByTable) (moment : ℕ) (old mid new : DeskSeen) (rows rows_now : RowsSeen) → ReadsOnly ⊥ old mid
    → IsGiven old.texts config catalog state given → RunsAs result (λ opened failed. MayRead told moment given) (outside_of mid rows) (outside_of new rows_now)
    → RunsAs result (λ opened failed. MayReadBy old.texts told moment config catalog state) (outside_of old rows) (outside_of new rows_now)
read_behind result config catalog state given told moment old mid new rows rows_now reads is runs =
    runs_behind result (λ opened failed. MayReadBy old.texts told moment config catalog state) (λ opened failed. MayRead told moment given) (outside_of old rows) (outside_of mid rows) (outside_of new rows_now) reads (omega arith) (λ left may. (given, is, may)) runs

-- ---- all commands

pub as_asked : (result : Status) (texts : Option Texts) (told : Option RowsByTable) (moment : ℕ) (other words : Option SourceAsked) (old new : Outside) → other ≡ words → RunsAs result (λ opened failed. MaySay opened failed texts told moment other) old new
    → RunsAs result (λ opened failed. MaySay opened failed texts told moment words) old new
as_asked result texts told moment other words old new same runs = subst (λ (w : Option SourceAsked). RunsAs result (λ opened failed. MaySay opened failed texts told moment w) old new) same runs

pub out_of_form : (texts : Option Texts) (told : Option RowsByTable) (moment : ℕ) (words : Option SourceAsked) (seen : Outside) → None ≡ words → RunsAs status.Usage (λ opened failed. MaySay opened failed texts told moment words) seen seen
out_of_form texts told moment words seen same =
    as_asked status.Usage texts told moment None words seen seen same (ends_now status.Usage (λ opened failed. MaySay opened failed texts told moment None) seen (λ e. cc) (λ e. cc) (λ e. cc) refl)
