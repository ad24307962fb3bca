-- What a run does to a desk, put together from the reading of texts and the saying of lines.
use Rattle.std.proofs.Common.{◌≡◌, ◌≢◌, ◌⊎◌, ◌∙◌, inl, inr, ℕ, ◌≤◌, List, [], ◌∷◌, All, true, false, Option, None, Some, Result, Ok, Err, IfOk, codes, refl, sym, ap, subst, arith}
use Rattle.basics.specs.Told.{Rose, RoseIf, told_more}
use Rattle.basics.specs.declared.memory.NoMemory.{NoMemory}
use Rattle.json_fields.specs.Answer.{IsOnly}
use Rattle.outside.specs.declared.faults.ConfigFault.{ConfigFault}
use Rattle.outside.specs.declared.faults.ConfigFault.TheVariants as config
use Rattle.outside.specs.Desk.{DeskSeen, SaidFront, SaidLines, SaysOnly, Texts}
use Rattle.outside.specs.Feed.{Left, anything, behind_line, nothing_left}
use Rattle.outside.specs.declared.fault.Fault.{Fault}
use Rattle.outside.specs.declared.fault.Fault.TheVariants as fault
use Rattle.outside.specs.declared.status.Status.{Status}
use Rattle.outside.specs.declared.status.Status.TheVariants as status
use Rattle.outside.proofs.Says.{none_or_one, told_more-none}
use Rattle.say_feed.specs.Said.{EndsLine, SaysFeed, WritesOut}
use Rattle.say_feed.specs.Said as feed
use Rattle.file_config.specs.Config.{ReadsConfig}
use Rattle.file_config.specs.declared.config.FileConfig.{FileConfig}
use Rattle.file_config.specs.declared.config.FileEntry.{FileEntry}
use Rattle.file_source.specs.Discovered.{failed_line, succeeded_line}
use Rattle.file_source.specs.declared.source.FileText.{FileText}
use Rattle.file_run.proofs.EndLemmas.{config_end, is_source_end}
use Rattle.file_run.specs.Runs.{BadConfig, EndsBy, EndsSaid, HasText, IsChecked, IsText, MayByConfig, MayCheck, NoConfig, Succeeded, MaySayOne, ReadsOnly, RefusesFiles, RunsAs, SaysRun, read_status}

-- a count that rose later has risen from before, and one that rose has risen still
pub later_rose : (old mid new : ℕ) → old ≤ mid → Rose mid new → Rose old new
later_rose old mid new kept rose = omega arith

pub rose_still : (old mid new : ℕ) → mid ≤ new → Rose old mid → Rose old new
rose_still old mid new kept rose = omega arith

never_rises : {P : Type 0} (count : ℕ) → ¬ P → RoseIf P count count
never_rises count never = record { kept = omega arith; rose = λ p. absurd (never p) }

-- ---- reading

-- nothing was read
pub none_read : (failed : Type 0) (seen : DeskSeen) → ¬ failed → ReadsOnly failed seen seen
none_read failed seen fine = record { faults = never_rises seen.read_faults fine; others = refl }

pub read_then : (first second : Type 0) (old mid new : DeskSeen) → ReadsOnly first old mid → ReadsOnly second mid new → ReadsOnly second old new
read_then first second old mid new before after = record {
  faults = record {
    kept = omega (arith, before.faults.kept, after.faults.kept);
    rose = λ f. later_rose old.read_faults mid.read_faults new.read_faults before.faults.kept (after.faults.rose f);
  };
  others = after.others ∙ ap (λ (d : DeskSeen). record d { read_faults = new.read_faults }) before.others;
}

pub read_where : (failed other : Type 0) (old new : DeskSeen) → (other → failed) → ReadsOnly failed old new → ReadsOnly other old new
read_where failed other old new same reads = record { faults = record { kept = reads.faults.kept; rose = λ o. reads.faults.rose (same o) }; others = reads.others }

-- one more text was read
pub read_more : (old mid new : DeskSeen) → ReadsOnly ⊥ old mid → new.read_faults ≡ mid.read_faults → new ≡ record mid { read_faults = new.read_faults } → ReadsOnly ⊥ old new
read_more old mid new before stays others = record {
  faults = record { kept = omega (arith, before.faults.kept, stays); rose = λ f. absurd f };
  others = others ∙ ap (λ (d : DeskSeen). record d { read_faults = new.read_faults }) before.others;
}

pub texts_read : (failed : Type 0) (old new : DeskSeen) → ReadsOnly failed old new → new.texts ≡ old.texts
texts_read failed old new reads = ap (λ (d : DeskSeen). d.texts) reads.others

-- ---- a run that ends at once

-- none was said
pub says_none : (why : Status) (ends : Option Status) (May : Left → Type 0) (old new : DeskSeen) → May (record { lines = []; ends = ends }) → new.said ≡ old.said → EndsBy why ends old new → SaysRun why May old new
says_none why ends May old new may same cause = record { left = record { lines = []; ends = ends }; may = inr may; said = same ∙ sym (told_more-none old.said); ends = cause }

-- it ends before anything that the texts say
pub says_nothing : (why : Status) (May : Left → Type 0) (old new : DeskSeen) → new.said ≡ old.said → EndsBy why None old new → SaysRun why May old new
says_nothing why May old new same cause = record { left = anything; may = inl refl; said = same ∙ sym (told_more-none old.said); ends = cause }

-- the texts end it so
pub ends_now : (why : Status) (May : Type 0 → Option Texts → Left → Type 0) (seen : DeskSeen) → why ≢ status.FileFault → why ≢ status.WriteFault → May (Rose seen.read_faults seen.read_faults) seen.texts (nothing_left why) → RunsAs why May seen seen
ends_now why May seen file write may = record {
  says = says_none why (Some why) (May (Rose seen.read_faults seen.read_faults) seen.texts) seen seen may refl (inl refl);
  read_faults = never_rises seen.read_faults file;
  say_faults = never_rises seen.say_faults write;
  say_stays = λ w. refl;
  texts = refl;
}

pub no_memory : (May : Type 0 → Option Texts → Left → Type 0) (seen : DeskSeen) → RunsAs status.NoMemory May seen seen
no_memory May seen = record {
  says = says_nothing status.NoMemory (May (Rose seen.read_faults seen.read_faults) seen.texts) seen seen refl (inr (inl refl));
  read_faults = never_rises seen.read_faults (λ e. cc);
  say_faults = never_rises seen.say_faults (λ e. cc);
  say_stays = λ w. refl;
  texts = refl;
}

-- a text could not be read
pub not_read : (found : Fault) (May : Type 0 → Option Texts → Left → Type 0) (failed : Type 0) (old new : DeskSeen) → (found ≡ fault.Failed → failed) → ReadsOnly failed old new → RunsAs (read_status found) May old new
not_read found May failed old new fails reads = record {
  says = says_nothing (read_status found) (May (Rose old.read_faults new.read_faults) old.texts) old new (ap (λ (d : DeskSeen). d.said) reads.others) (cause found fails);
  read_faults = record { kept = reads.faults.kept; rose = λ e. reads.faults.rose (fails (file found e)) };
  say_faults = record { kept = omega (arith, ap (λ (d : DeskSeen). d.say_faults) reads.others); rose = λ e. absurd (write found e) };
  say_stays = λ w. ap (λ (d : DeskSeen). d.say_faults) reads.others;
  texts = ap (λ (d : DeskSeen). d.texts) reads.others;
}
  where
    cause : (f : Fault) → (f ≡ fault.Failed → failed) → EndsBy (read_status f) None old new
    cause fault.Failed fs = inr (inr (inl (refl, reads.faults.rose (fs refl))))
    cause fault.NoMemory fs = inr (inl refl)

    file : (f : Fault) → read_status f ≡ status.FileFault → f ≡ fault.Failed
    file fault.Failed e = refl
    file fault.NoMemory e = absurd (cc)

    write : (f : Fault) → read_status f ≡ status.WriteFault → ⊥
    write fault.Failed e = cc
    write fault.NoMemory e = cc

-- ---- a run behind the reading of texts

pub runs_behind : (result : Status) (failed : Type 0) (Before After : Type 0 → Option Texts → Left → Type 0) (old mid new : DeskSeen) → ReadsOnly failed old mid
    → ((told : Left) → After (Rose mid.read_faults new.read_faults) old.texts told → Before (Rose old.read_faults new.read_faults) old.texts told) → RunsAs result After mid new → RunsAs result Before old new
runs_behind result failed Before After old mid new reads from runs = record {
  says = record {
    left = runs.says.left;
    may = may runs.says.may;
    said = runs.says.said ∙ ap (λ (t : Option (List (List ℕ))). told_more runs.says.left.lines t) (ap (λ (d : DeskSeen). d.said) reads.others);
    ends = cause runs.says.ends;
  };
  read_faults = record {
    kept = omega (arith, reads.faults.kept, runs.read_faults.kept);
    rose = λ e. later_rose old.read_faults mid.read_faults new.read_faults reads.faults.kept (runs.read_faults.rose e);
  };
  say_faults = subst (λ (n : ℕ). RoseIf (result ≡ status.WriteFault) n new.say_faults) said_so runs.say_faults;
  say_stays = λ w. runs.say_stays w ∙ said_so;
  texts = runs.texts ∙ same;
}
  where
    same : mid.texts ≡ old.texts
    same = ap (λ (d : DeskSeen). d.texts) reads.others

    said_so : mid.say_faults ≡ old.say_faults
    said_so = ap (λ (d : DeskSeen). d.say_faults) reads.others

    may : (runs.says.left ≡ anything) ⊎ After (Rose mid.read_faults new.read_faults) mid.texts runs.says.left → (runs.says.left ≡ anything) ⊎ Before (Rose old.read_faults new.read_faults) old.texts runs.says.left
    may (inl none) = inl none
    may (inr is) = inr (from runs.says.left (subst (λ (t : Option Texts). After (Rose mid.read_faults new.read_faults) t runs.says.left) same is))

    cause : EndsBy result runs.says.left.ends mid new → EndsBy result runs.says.left.ends old new
    cause (inl is) = inl is
    cause (inr (inl memory)) = inr (inl memory)
    cause (inr (inr (inl file))) = inr (inr (inl (file.0, later_rose old.read_faults mid.read_faults new.read_faults reads.faults.kept file.1)))
    cause (inr (inr (inr write))) = inr (inr (inr (write.0, subst (λ (n : ℕ). Rose n new.say_faults) said_so write.1)))

-- the files of a configuration were not read
pub files_not_read : (why : Status) (text : List ℕ) (MayFiles : List FileText → Left → Type 0) (failed : Type 0) (old new : DeskSeen) → RefusesFiles why text old new → ReadsOnly failed old new → (why ≡ status.FileFault → failed)
    → RunsAs why (λ reads texts. MayByConfig texts text MayFiles) old new
files_not_read why text MayFiles failed old new refused reads fails = record {
  says = says refused;
  read_faults = record { kept = reads.faults.kept; rose = λ e. reads.faults.rose (fails e) };
  say_faults = record { kept = omega (arith, ap (λ (d : DeskSeen). d.say_faults) reads.others); rose = λ e. absurd (write refused e) };
  say_stays = λ w. ap (λ (d : DeskSeen). d.say_faults) reads.others;
  texts = ap (λ (d : DeskSeen). d.texts) reads.others;
}
  where
    same : new.said ≡ old.said
    same = ap (λ (d : DeskSeen). d.said) reads.others

    says : RefusesFiles why text old new → SaysRun why (MayByConfig old.texts text MayFiles) old new
    says (inl memory) = says_nothing why (MayByConfig old.texts text MayFiles) old new same (inr (inl memory))
    says (inr (inl file)) = says_nothing why (MayByConfig old.texts text MayFiles) old new same (inr (inr (inl file)))
    says (inr (inr bad)) = says_none why (Some why) (MayByConfig old.texts text MayFiles) old new (BadConfig bad.0 bad.1 (ap nothing_left bad.2)) same (inl refl)

    write : RefusesFiles why text old new → why ≡ status.WriteFault → ⊥
    write (inl memory) e = cc
    write (inr (inl file)) e = let f = file.0 in cc
    write (inr (inr bad)) e = let end = config_end bad.0 in let same_end = ap is_source_end (sym e ∙ bad.2) in cc

-- the same run may say more
pub runs_so : (result : Status) (Before After : Type 0 → Option Texts → Left → Type 0) (old new : DeskSeen)
    → ((told : Left) → After (Rose old.read_faults new.read_faults) old.texts told → Before (Rose old.read_faults new.read_faults) old.texts told) → RunsAs result After old new → RunsAs result Before old new
runs_so result Before After old new from runs = runs_behind result ⊥ Before After old old new (none_read ⊥ old (λ f. f)) from runs

-- ---- a run that says

-- what was said is written out before the answer
pub written_out : (last result : Status) (May : Type 0 → Option Texts → Left → Type 0) (old mid new : DeskSeen) → RunsAs last May old mid → WritesOut last result mid new → RunsAs result May old new
written_out last result May old mid new runs out = record {
  says = record {
    left = runs.says.left;
    may = may runs.says.may;
    said = ap (λ (d : DeskSeen). d.said) out.others ∙ runs.says.said;
    ends = cause out.is;
  };
  read_faults = record { kept = omega (arith, runs.read_faults.kept, reads); rose = λ e. read_rose e out.is };
  say_faults = record { kept = omega (arith, runs.say_faults.kept, out.kept); rose = λ e. say_rose e out.is };
  say_stays = λ w. out.stays w ∙ runs.say_stays (λ l. not_write w l out.is);
  texts = ap (λ (d : DeskSeen). d.texts) out.others ∙ runs.texts;
}
  where
    Is : Type 0
    Is = (result ≡ last) ⊎ ((result ≡ status.WriteFault) × Rose mid.say_faults new.say_faults)

    left : Left
    left = runs.says.left

    reads : new.read_faults ≡ mid.read_faults
    reads = ap (λ (d : DeskSeen). d.read_faults) out.others

    may : (left ≡ anything) ⊎ May (Rose old.read_faults mid.read_faults) old.texts left → (left ≡ anything) ⊎ May (Rose old.read_faults new.read_faults) old.texts left
    may (inl none) = inl none
    may (inr is) = inr (subst (λ (n : ℕ). May (Rose old.read_faults n) old.texts left) (sym reads) is)

    still : EndsBy last left.ends old mid → EndsBy last left.ends old new
    still (inl is) = inl is
    still (inr (inl memory)) = inr (inl memory)
    still (inr (inr (inl file))) = inr (inr (inl (file.0, subst (λ (n : ℕ). Rose old.read_faults n) (sym reads) file.1)))
    still (inr (inr (inr write))) = inr (inr (inr (write.0, rose_still old.say_faults mid.say_faults new.say_faults out.kept write.1)))

    cause : Is → EndsBy result left.ends old new
    cause (inl same) = subst (λ (s : Status). EndsBy s left.ends old new) (sym same) (still runs.says.ends)
    cause (inr write) = inr (inr (inr (write.0, later_rose old.say_faults mid.say_faults new.say_faults runs.say_faults.kept write.1)))

    read_rose : result ≡ status.FileFault → Is → Rose old.read_faults new.read_faults
    read_rose e (inl same) = subst (λ (n : ℕ). Rose old.read_faults n) (sym reads) (runs.read_faults.rose (sym same ∙ e))
    read_rose e (inr write) = absurd (let w = write.0 in cc)

    say_rose : result ≡ status.WriteFault → Is → Rose old.say_faults new.say_faults
    say_rose e (inl same) = rose_still old.say_faults mid.say_faults new.say_faults out.kept (runs.say_faults.rose (sym same ∙ e))
    say_rose e (inr write) = later_rose old.say_faults mid.say_faults new.say_faults runs.say_faults.kept write.1

    not_write : result ≢ status.WriteFault → last ≡ status.WriteFault → Is → ⊥
    not_write w l (inl same) = w (same ∙ l)
    not_write w l (inr write) = w write.0

-- one line was said
pub one_said : (line : List ℕ) (failed : Type 0) (old new : DeskSeen) → SaidLines (line ∷ []) old new → SaysOnly failed old new → new.say_faults ≡ old.say_faults → RunsAs status.Ok (λ reads texts. MaySayOne line) old new
one_said line failed old new said only stays = record {
  says = record { left = behind_line line (nothing_left status.Ok); may = inr (inr refl); said = said; ends = inl refl };
  read_faults = record { kept = omega (arith, only.read_faults); rose = λ e. absurd (cc) };
  say_faults = record { kept = omega (arith, stays); rose = λ e. absurd (cc) };
  say_stays = λ w. stays;
  texts = only.texts;
}

-- it was not
pub one_not_said : (why : Status) (line : List ℕ) (failed : Type 0) (old new : DeskSeen) → (why ≡ status.WriteFault → failed) → EndsLine why → SaidFront failed (line ∷ []) old new → (¬ failed → new.say_faults ≡ old.say_faults)
    → (failed → why ≡ status.WriteFault) → RunsAs why (λ reads texts. MaySayOne line) old new
one_not_said why line failed old new fails cause front stays back = record {
  says = by (none_or_one line old.said new.said front.front);
  read_faults = record { kept = omega (arith, front.only.read_faults); rose = λ e. absurd (file e cause) };
  say_faults = record { kept = front.only.faults.kept; rose = λ e. front.only.faults.rose (fails e) };
  say_stays = λ w. stays (λ f. w (back f));
  texts = front.only.texts;
}
  where
    file : why ≡ status.FileFault → EndsLine why → ⊥
    file e (inl memory) = cc
    file e (inr write) = cc

    ended : EndsLine why → EndsBy why None old new
    ended (inl memory) = inr (inl memory)
    ended (inr write) = inr (inr (inr (write, front.only.faults.rose (fails write))))

    by : (new.said ≡ old.said) ⊎ (new.said ≡ told_more (line ∷ []) old.said) → SaysRun why (MaySayOne line) old new
    by (inl none) = record { left = anything; may = inl refl; said = none ∙ sym (told_more-none old.said); ends = ended cause }
    by (inr one) = record { left = behind_line line anything; may = inr (inl refl); said = one; ends = ended cause }

-- what was said is written out, and that is all that ends it
pub said_cause : (last result : Status) (mid new : DeskSeen) → EndsSaid last → WritesOut last result mid new → EndsSaid result
said_cause last result mid new cause out = by out.is
  where
    by : (result ≡ last) ⊎ ((result ≡ status.WriteFault) × Rose mid.say_faults new.say_faults) → EndsSaid result
    by (inl same) = subst (λ (s : Status). EndsSaid s) (sym same) cause
    by (inr write) = inr (inr write.0)

pub line_cause : (why : Status) → EndsLine why → EndsSaid why
line_cause why (inl memory) = inr (inl memory)
line_cause why (inr write) = inr (inr write)

-- the lines of a feed were said, of which no row can fail to be read, and which does not end as the desk's faults do
pub feed_said : (result : Status) (Gives : Left → Type 0) (May : Type 0 → Option Texts → Left → Type 0) (old new : DeskSeen) → ((told : Left) → Gives told → May (Rose old.read_faults new.read_faults) old.texts told)
    → ((told : Left) → Gives told → (why : Status) → told.ends ≡ Some why → is_source_end why ≡ true)
    → SaysFeed result Gives 0 0 old new → SaysOnly ⊥ old new → (¬ (result ≡ status.WriteFault) → new.say_faults ≡ old.say_faults) → RunsAs result May old new
feed_said result Gives May old new from ending says only stays = record {
  says = record { left = says.left; may = inr (from says.left says.may); said = says.said; ends = cause says.ends };
  read_faults = record { kept = omega (arith, only.read_faults); rose = λ e. absurd (file e says.ends) };
  say_faults = record { kept = only.faults.kept; rose = λ e. rose e says.ends };
  say_stays = stays;
  texts = only.texts;
}
  where
    cause : feed.EndsBy result says.left.ends 0 0 old.say_faults new.say_faults → EndsBy result says.left.ends old new
    cause (inl is) = inl is
    cause (inr (inl memory)) = inr (inl memory)
    cause (inr (inr (inl lost))) = absurd (omega (arith, lost.1))
    cause (inr (inr (inr write))) = inr (inr (inr write))

    ended : (why : Status) → result ≡ why → is_source_end why ≡ false → says.left.ends ≡ Some result → ⊥
    ended why e other is = let own = ending says.left says.may result is in let same = ap is_source_end e in cc

    rose : result ≡ status.WriteFault → feed.EndsBy result says.left.ends 0 0 old.say_faults new.say_faults → Rose old.say_faults new.say_faults
    rose e (inl is) = absurd (ended status.WriteFault e refl is)
    rose e (inr (inl memory)) = absurd (cc)
    rose e (inr (inr (inl lost))) = absurd (omega (arith, lost.1))
    rose e (inr (inr (inr write))) = write.1

    file : result ≡ status.FileFault → feed.EndsBy result says.left.ends 0 0 old.say_faults new.say_faults → ⊥
    file e (inl is) = ended status.FileFault e refl is
    file e (inr (inl memory)) = cc
    file e (inr (inr (inl lost))) = omega (arith, lost.1)
    file e (inr (inr (inr write))) = let w = write.0 in cc

pub ok_no_fault : {A : Type 0} (a : A) (why : Status) → ◌≡◌ {A = Result A Status} (Ok a) (Err why) → ⊥
ok_no_fault a why e = cc

pub line_not_said : {A : Type 0} (why : Status) (line : List ℕ) (old new : DeskSeen) → EndsLine why → SaidFront (◌≡◌ {A = Result A Status} (Err why) (Err status.WriteFault)) (line ∷ []) old new
    → (¬ (◌≡◌ {A = Result A Status} (Err why) (Err status.WriteFault)) → new.say_faults ≡ old.say_faults) → RunsAs why (λ reads texts. MaySayOne line) old new
line_not_said {A} why line old new cause front stays =
    one_not_said why line (◌≡◌ {A = Result A Status} (Err why) (Err status.WriteFault)) old new (λ e. ap (λ (s : Status). Err s) e) cause front stays (λ e. same e)
  where
    same : ◌≡◌ {A = Result A Status} (Err why) (Err status.WriteFault) → why ≡ status.WriteFault
    same e = cc

-- memory was wanting behind the reading of texts
pub memory_wanted : (May : Type 0 → Option Texts → Left → Type 0) (old new : DeskSeen) → ReadsOnly ⊥ old new → RunsAs status.NoMemory May old new
memory_wanted May old new reads = not_read fault.NoMemory May ⊥ old new (λ e. never e) reads
  where
    never : fault.NoMemory ≡ fault.Failed → ⊥
    never e = cc

-- ---- `check`

pub says_no_config : (failed : Type 0) (texts : Option Texts) (name text : List ℕ) (why : ConfigFault) (result : Result (List ℕ) NoMemory) → IsText texts name text → (why ≢ config.NoMemory → IsOnly (ReadsConfig text) (Err why))
    → IfOk result (λ line. (why ≢ config.NoMemory) × (line ≡ failed_line (codes "bad config"))) → IfOk result (IsChecked failed texts name)
says_no_config failed texts name text why (Err e) is reads found = tt
says_no_config failed texts name text why (Ok line) is reads found = NoConfig text is why (reads found.0) found.1

pub says_succeeded : (failed : Type 0) (texts now : Option Texts) (config text : List ℕ) (read : FileConfig) (result : Result (List ℕ) NoMemory) → IsText texts config text → IsOnly (ReadsConfig text) (Ok read) → now ≡ texts
    → All (λ entry. HasText now entry.path) read.files → IfOk result (λ line. line ≡ succeeded_line) → IfOk result (IsChecked failed texts config)
says_succeeded failed texts now config text read (Err e) is reads same all found = tt
says_succeeded failed texts now config text read (Ok line) is reads same all found =
    Succeeded text is read reads (subst (λ (t : Option Texts). All (λ (entry : FileEntry). HasText t entry.path) read.files) same all) found

pub checked_said : (result : Status) (config line : List ℕ) (old mid new : DeskSeen) → ReadsOnly ⊥ old mid → IsChecked (Rose old.read_faults mid.read_faults) old.texts config line → new.read_faults ≡ mid.read_faults
    → RunsAs result (λ failed texts. MaySayOne line) mid new → RunsAs result (λ failed texts. MayCheck failed texts config) old new
checked_said result config line old mid new only checked reads runs =
    runs_behind result ⊥ (λ failed texts. MayCheck failed texts config) (λ failed texts. MaySayOne line) old mid new only
    (λ told may. (line, subst (λ (n : ℕ). IsChecked (Rose old.read_faults n) old.texts config line) (sym reads) checked, may)) runs

-- ---- a text that could not be read

pub not_read_by : (found : Fault) (result : Status) (May : Type 0 → Option Texts → Left → Type 0) (failed : Type 0) (old new : DeskSeen) → result ≡ read_status found → (found ≡ fault.Failed → failed) → ReadsOnly failed old new → RunsAs result May old new
not_read_by found result May failed old new is fails reads = subst (λ (s : Status). RunsAs s May old new) (sym is) (not_read found May failed old new fails reads)

pub err_of_fault : {A : Type 0} {found : Fault} → found ≡ fault.Failed → ◌≡◌ {A = Result A Fault} (Err found) (Err fault.Failed)
err_of_fault e = ap (λ (f : Fault). Err f) e

pub ok_not_failed : {A : Type 0} (a : A) (found : Fault) → ◌≡◌ {A = Result A Fault} (Ok a) (Err found) → ⊥
ok_not_failed a found e = cc

pub fault_of_err : {A : Type 0} {why : Status} → why ≡ status.FileFault → ◌≡◌ {A = Result A Status} (Err why) (Err status.FileFault)
fault_of_err e = ap (λ (s : Status). Err s) e
