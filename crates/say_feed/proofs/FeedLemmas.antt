-- The lines of a feed that are said, one behind the other.
use Rattle.std.proofs.Common.{◌≡◌, ◌⊎◌, ◌∙◌, inl, inr, ℕ, ◌≤◌, List, [], ◌∷◌, ◌++◌, Option, None, Some, Result, Ok, Err, refl, sym, ap, subst, append_assoc, arith}
use Rattle.basics.specs.Told.{Rose, told_more}
use Rattle.outside.specs.Desk.{DeskSeen, SaidFront, SaidLines}
use Rattle.outside.specs.Feed.{Ends, FeedSeen, GivesNext, Left, LosesRows, Narrows, WantsMemory, anything, behind_line, nothing_left}
use Rattle.outside.specs.declared.status.Status.{Status}
use Rattle.outside.specs.declared.status.Status.TheVariants as status
use Rattle.outside.proofs.Says.{none_or_one, told_both, told_more-none}
use Rattle.say_feed.specs.Said.{EndsBy, EndsLine, SaidSoFar, SaysFeed, SaysLine, WritesOut}

-- a count that rose later has risen from before
later_rose : (old mid new : ℕ) → old ≤ mid → Rose mid new → Rose old new
later_rose old mid new kept rose = omega arith

-- ---- the next line

pub none_came : (why : Status) (Before After : Left → Type 0) (old new : FeedSeen) (desk : DeskSeen) → Before anything → GivesNext (Err why) Before After old new → SaysFeed why Before old.faults new.faults desk desk
none_came why Before After old new desk first gives = by gives.1
  where
    none : desk.said ≡ told_more [] desk.said
    none = sym (told_more-none desk.said)

    by : (WantsMemory why old new × Narrows Before After) ⊎ LosesRows why old new ⊎ Ends why Before old new → SaysFeed why Before old.faults new.faults desk desk
    by (inl wants) = record { left = anything; may = first; said = none; ends = inr (inl wants.0.is) }
    by (inr (inl loses)) = record { left = anything; may = first; said = none; ends = inr (inr (inl (loses.is, loses.rose))) }
    by (inr (inr over)) = record { left = nothing_left why; may = over.over; said = none; ends = inl refl }

pub all_came : (Before After : Left → Type 0) (old new : FeedSeen) (desk : DeskSeen) → GivesNext (Ok None) Before After old new → SaysFeed status.Ok Before old.faults new.faults desk desk
all_came Before After old new desk over = record { left = nothing_left status.Ok; may = over.over; said = sym (told_more-none desk.said); ends = inl refl }

pub not_said : (why : Status) (failed : Type 0) (line : List ℕ) (Before After : Left → Type 0) (old new : FeedSeen) (desk now : DeskSeen) → Before anything → After anything → GivesNext (Ok (Some line)) Before After old new
    → (why ≡ status.WriteFault → failed) → EndsLine why → SaidFront failed (line ∷ []) desk now → SaysFeed why Before old.faults new.faults desk now
not_said why failed line Before After old new desk now first more gives fails cause front = by (none_or_one line desk.said now.said front.front)
  where
    ended : EndsLine why → EndsBy why None old.faults new.faults desk.say_faults now.say_faults
    ended (inl memory) = inr (inl memory)
    ended (inr write) = inr (inr (inr (write, front.only.faults.rose (fails write))))

    by : (now.said ≡ desk.said) ⊎ (now.said ≡ told_more (line ∷ []) desk.said) → SaysFeed why Before old.faults new.faults desk now
    by (inl none) = record { left = anything; may = first; said = none ∙ sym (told_more-none desk.said); ends = ended cause }
    by (inr one) = record { left = behind_line line anything; may = gives.first anything more; said = one; ends = ended cause }

pub line_came : (line : List ℕ) (Before After : Left → Type 0) (old new : FeedSeen) (desk now : DeskSeen) → GivesNext (Ok (Some line)) Before After old new → SaidLines (line ∷ []) desk now → SaysLine Before After desk now
line_came line Before After old new desk now gives said = record { line = line; first = gives.first; said = said }

-- the counts of a feed that gave its next line
pub none_fell : (answer : Result (Option (List ℕ)) Status) (Before After : Left → Type 0) (old new : FeedSeen) → GivesNext answer Before After old new → old.faults ≤ new.faults
none_fell (Ok (Some line)) Before After old new gives = omega (arith, ap (λ (s : FeedSeen). s.faults) gives.stays)
none_fell (Ok None) Before After old new over = omega (arith, ap (λ (s : FeedSeen). s.faults) over.ended)
none_fell (Err why) Before After old new gives = by gives.1
  where
    by : (WantsMemory why old new × Narrows Before After) ⊎ LosesRows why old new ⊎ Ends why Before old new → old.faults ≤ new.faults
    by (inl wants) = omega (arith, ap (λ (s : FeedSeen). s.faults) wants.0.stays)
    by (inr (inl loses)) = loses.kept
    by (inr (inr over)) = omega (arith, ap (λ (s : FeedSeen). s.faults) over.ended)

-- ---- all lines

pub no_line : (May : Left → Type 0) (desk : DeskSeen) → SaidSoFar May May desk desk
no_line May desk = record { front = []; behind = λ left may. may; said = sym (told_more-none desk.said) }

pub one_line_more : (Start Before After : Left → Type 0) (old mid new : DeskSeen) → SaidSoFar Start Before old mid → SaysLine Before After mid new → SaidSoFar Start After old new
one_line_more Start Before After old mid new so_far line = record {
  front = so_far.front ++ line.line ∷ [];
  behind = λ left may. subst (λ (ls : List (List ℕ)). Start (record left { lines = ls })) (sym (append_assoc so_far.front (line.line ∷ []) left.lines)) (so_far.behind (behind_line line.line left) (line.first left may));
  said = told_both so_far.front (line.line ∷ []) old.said mid.said new.said so_far.said line.said;
}

pub ends_behind : (why : Status) (Start Now : Left → Type 0) (rows rows_mid rows_now : ℕ) (old mid new : DeskSeen) → rows ≤ rows_mid → old.say_faults ≤ mid.say_faults → SaidSoFar Start Now old mid → SaysFeed why Now rows_mid rows_now mid new
    → SaysFeed why Start rows rows_now old new
ends_behind why Start Now rows rows_mid rows_now old mid new less fewer so_far says = record {
  left = record (says.left) { lines = so_far.front ++ says.left.lines };
  may = so_far.behind says.left says.may;
  said = told_both so_far.front says.left.lines old.said mid.said new.said so_far.said says.said;
  ends = by says.ends;
}
  where
    by : EndsBy why says.left.ends rows_mid rows_now mid.say_faults new.say_faults → EndsBy why says.left.ends rows rows_now old.say_faults new.say_faults
    by (inl is) = inl is
    by (inr (inl memory)) = inr (inl memory)
    by (inr (inr (inl lost))) = inr (inr (inl (lost.0, later_rose rows rows_mid rows_now less lost.1)))
    by (inr (inr (inr write))) = inr (inr (inr (write.0, later_rose old.say_faults mid.say_faults new.say_faults fewer write.1)))

rose_still : (old mid new : ℕ) → mid ≤ new → Rose old mid → Rose old new
rose_still old mid new kept rose = omega arith

pub written_out : (last result : Status) (May : Left → Type 0) (rows rows_now : ℕ) (old mid new : DeskSeen) → old.say_faults ≤ mid.say_faults → SaysFeed last May rows rows_now old mid → WritesOut last result mid new → SaysFeed result May rows rows_now old new
written_out last result May rows rows_now old mid new fewer says out = record {
  left = says.left;
  may = says.may;
  said = ap (λ (d : DeskSeen). d.said) out.others ∙ says.said;
  ends = by out.is;
}
  where
    still : EndsBy last says.left.ends rows rows_now old.say_faults mid.say_faults → EndsBy last says.left.ends rows rows_now old.say_faults new.say_faults
    still (inl is) = inl is
    still (inr (inl memory)) = inr (inl memory)
    still (inr (inr (inl lost))) = inr (inr (inl lost))
    still (inr (inr (inr write))) = inr (inr (inr (write.0, rose_still old.say_faults mid.say_faults new.say_faults out.kept write.1)))

    by : (result ≡ last) ⊎ ((result ≡ status.WriteFault) × Rose mid.say_faults new.say_faults) → EndsBy result says.left.ends rows rows_now old.say_faults new.say_faults
    by (inl same) = subst (λ (s : Status). EndsBy s says.left.ends rows rows_now old.say_faults new.say_faults) (sym same) (still says.ends)
    by (inr write) = inr (inr (inr (write.0, later_rose old.say_faults mid.say_faults new.say_faults fewer write.1)))
