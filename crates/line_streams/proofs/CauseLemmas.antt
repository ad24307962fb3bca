-- Causes of answers, of bytes that give the same, and of one turn behind others.
use Rattle.std.proofs.Common.{◌≡◌, ℕ, ◌≤◌, List, [], ◌∷◌, ◌++◌, length, Bool, true, false, cond, Option, None, Some, option_map, refl, sym, ap, subst, ◌∙◌, append_assoc, append-nil, drop, arith}
use Rattle.std.specs.Prelude.{nat_lt}
use Rattle.std.proofs.lemmas.Bool.Decides.{nat_tests}
use Rattle.outside.specs.declared.link.Polled.{Polled}
use Rattle.outside.specs.declared.link.Polled.TheVariants as polled
use Rattle.piecewise_lines.specs.Unread.{Unread}
use Rattle.piecewise_lines.specs.Next.{next_of, passed_of, answer_of, left_of, torn_line, fed, IsTorn}
use Rattle.piecewise_lines.specs.declared.NextLine.{NextLine}
use Rattle.piecewise_lines.specs.declared.NextLine.TheVariants as answer
use Rattle.line_streams.specs.Input.{Input, GivesSame, IsSame, Answered, WantsMore, Tears, Ends, Answers, AreRead, HasCause, GoesOn, GoesOnOrCause}
use Rattle.line_streams.proofs.BlankLemmas.{blank_same, same_self, same_both, same_fed, same_now, fed_further, fed_nothing}

answered_same : (given : NextLine) (one other : Unread) (now : Input) → GivesSame one other → Answered given one now → Answered given other now
answered_same given one other now same a = record { answer = sym same.answer ∙ a.answer; unread = a.unread ∙ same.left; held = a.held }

wants_same : (ended : Bool) (one other : Unread) (now : Input) → GivesSame one other → WantsMore ended one now → WantsMore ended other now
wants_same ended one other now same w = record { more = answered_same answer.More one other now same w.more; over = w.over }

-- bytes that give the same give the same cause
pub answers_same : (given : Polled) (one other : Unread) (now : Input) → IsSame one other → Answers given one now → Answers given other now
answers_same (polled.Line line) one other now same a = answered_same (answer.Line line) one other now (same_now one other same) a
answers_same polled.TooLong one other now same a = answered_same answer.TooLong one other now (same_now one other same) a
answers_same polled.NotYet one other now same a = wants_same false one other now (same_now one other same) a
answers_same (polled.Torn line) one other now same a =
    let s = same_now one other same in
    record {
      answer = sym s.answer ∙ a.answer;
      over = a.over;
      torn = sym s.torn ∙ a.torn;
      unread = a.unread ∙ ap (λ (u : Unread). record { limit = u.limit; bytes = [] }) s.left;
      held = a.held;
    }
answers_same polled.End one other now same a =
    let s = same_now one other same in
    record { more = wants_same true one other now s a.more; torn = sym s.torn ∙ a.torn }
answers_same polled.Failed one other now same a = wants_same false one other now (same_now one other same) a
answers_same polled.NoMemory one other now same a = same_both (fed now.unread now.held) one other a same

read_both : (first second : List ℕ) (before mid now : Option (List ℕ)) → AreRead first before mid → AreRead second mid now → AreRead (first ++ second) before now
read_both first second before mid None one two = one ∙ ap (λ (l : Option (List ℕ)). option_map (λ left. first ++ left) l) two
read_both first second before mid (Some left) one two = one ∙ (ap (λ (l : Option (List ℕ)). option_map (λ left. first ++ left) l) two ∙ ap Some (sym (append_assoc first second left)))

read_none : (left : Option (List ℕ)) → AreRead [] left left
read_none None = refl
read_none (Some left) = refl

-- all that was read, behind bytes of a turn before
read_is : (old mid : Input) (first second : List ℕ) → IsSame (fed mid.unread mid.held) (fed old.unread (old.held ++ first)) → IsSame (fed mid.unread (mid.held ++ second)) (fed old.unread (old.held ++ (first ++ second)))
read_is old mid first second same =
    subst (λ (u : Unread). IsSame u (fed old.unread (old.held ++ (first ++ second)))) (fed_further mid.unread mid.held second)
    (subst (λ (u : Unread). IsSame (fed (fed mid.unread mid.held) second) u) (fed_further old.unread (old.held ++ first) second ∙ ap (λ (l : List ℕ). fed old.unread l) (append_assoc old.held first second))
    (same_fed (fed mid.unread mid.held) (fed old.unread (old.held ++ first)) second same))

pub goes_further : (old mid new : Input) → GoesOn old mid → GoesOn mid new → GoesOn old new
goes_further old mid new first second = record {
  bytes = first.bytes ++ second.bytes;
  read = read_both first.bytes second.bytes old.left mid.left new.left first.read second.read;
  same = same_both _ _ _ second.same (read_is old mid first.bytes second.bytes first.same);
}

pub cause_behind : (given : Polled) (old mid new : Input) → GoesOn old mid → HasCause given mid new → HasCause given old new
cause_behind given old mid new first second = record {
  bytes = first.bytes ++ second.bytes;
  read = read_both first.bytes second.bytes old.left mid.left new.left first.read second.read;
  cause = answers_same given _ _ new (read_is old mid first.bytes second.bytes first.same) second.cause;
}

held_none : (old : Input) → fed old.unread old.held ≡ fed old.unread (old.held ++ [])
held_none old = ap (λ (l : List ℕ). fed old.unread l) (sym (append-nil old.held))

-- nothing was done
pub goes_nowhere : (input : Input) → GoesOn input input
goes_nowhere input = record {
  bytes = [];
  read = read_none input.left;
  same = subst (λ (u : Unread). IsSame (fed input.unread input.held) u) (held_none input) (same_self (fed input.unread input.held));
}

-- an answer by what was read before has its cause
pub cause_of_read : (given : Polled) (old new : Input) → new.left ≡ old.left → Answers given (fed old.unread old.held) new → HasCause given old new
cause_of_read given old new left answers = record {
  bytes = [];
  read = subst (λ (l : Option (List ℕ)). AreRead [] old.left l) (sym left) (read_none old.left);
  cause = subst (λ (u : Unread). Answers given u new) (held_none old) answers;
}

-- where one torn piece is left, more is wanted, and nothing is passed over
pub torn_wants : (unread : Unread) → IsTorn unread → (answer_of unread ≡ answer.More) × (left_of unread ≡ unread)
torn_wants unread torn = (
  ap (λ (l : List (List ℕ)). next_of unread.limit l) torn.piece ∙ ap (λ (b : Bool). cond b answer.TooLong answer.More) (not_over unread.limit (length unread.bytes) torn.within),
  ap (λ (l : List (List ℕ)). record unread { bytes = drop (passed_of unread.limit l) unread.bytes }) torn.piece,
)
  where
    not_over : (limit n : ℕ) → n ≤ limit → nat_lt limit n ≡ false
    not_over limit n within = grind (arith, nat_tests)

-- an answer by what is left of all that was read has its cause in that
pub left_answers : (given : Polled) (read : Unread) (mid now : Input) → Answered answer.More read mid → Answers given mid.unread now → Answers given read now
left_answers given read mid now more answers =
    answers_same given (left_of read) read now (blank_same read more.answer) (subst (λ (u : Unread). Answers given u now) more.unread answers)

-- One turn

-- an answer other than NotYet, by what was read before
pub read_cause : (given : Polled) (old new : Input) → new.left ≡ old.left → (given ≡ polled.NotYet → ⊥) → Answers given (fed old.unread old.held) new → GoesOnOrCause given old new
read_cause (polled.Line line) old new left other answers = cause_of_read (polled.Line line) old new left answers
read_cause polled.TooLong old new left other answers = cause_of_read polled.TooLong old new left answers
read_cause polled.NotYet old new left other answers = absurd (other refl)
read_cause (polled.Torn line) old new left other answers = cause_of_read (polled.Torn line) old new left answers
read_cause polled.End old new left other answers = cause_of_read polled.End old new left answers
read_cause polled.Failed old new left other answers = cause_of_read polled.Failed old new left answers
read_cause polled.NoMemory old new left other answers = cause_of_read polled.NoMemory old new left answers

-- bytes that were read, where more was wanted
pub turn_reads : (old mid new : Input) → WantsMore false (fed old.unread old.held) mid → mid.left ≡ old.left → new.unread ≡ mid.unread → AreRead new.held mid.left new.left → GoesOn old new
turn_reads old mid new wants left unread read = record {
  bytes = new.held;
  read = sym left ∙ read;
  same =
      subst (λ (u : Unread). IsSame (fed u new.held) (fed old.unread (old.held ++ new.held))) (sym (unread ∙ wants.more.unread))
      (subst (λ (u : Unread). IsSame (fed (left_of (fed old.unread old.held)) new.held) u) (fed_further old.unread old.held new.held)
      (same_fed (left_of (fed old.unread old.held)) (fed old.unread old.held) new.held (blank_same (fed old.unread old.held) wants.more.answer)));
}

-- a read that failed
pub turn_fails : (old mid : Input) (faults : ℕ) → WantsMore false (fed old.unread old.held) mid → mid.left ≡ old.left → HasCause polled.Failed old (record mid { faults = faults })
turn_fails old mid faults wants left =
    cause_of_read polled.Failed old (record mid { faults = faults }) left
    record { more = record { answer = wants.more.answer; unread = wants.more.unread; held = wants.more.held }; over = wants.over }

-- a read that wanted memory
pub turn_wants : (old mid : Input) (faults : ℕ) → WantsMore false (fed old.unread old.held) mid → mid.left ≡ old.left → HasCause polled.NoMemory old (record mid { faults = faults })
turn_wants old mid faults wants left =
    cause_of_read polled.NoMemory old (record mid { faults = faults }) left
    (subst (λ (u : Unread). IsSame u (fed old.unread old.held)) (sym here) (blank_same (fed old.unread old.held) wants.more.answer))
  where
    here : fed mid.unread mid.held ≡ left_of (fed old.unread old.held)
    here = ap (λ (l : List ℕ). fed mid.unread l) wants.more.held ∙ (fed_nothing mid.unread ∙ wants.more.unread)

-- an answer of a turn behind others
pub cause_after : (given : Polled) (old mid new : Input) → GoesOn old mid → (given ≡ polled.NotYet → ⊥) → GoesOnOrCause given mid new → HasCause given old new
cause_after (polled.Line line) old mid new on other cause = cause_behind (polled.Line line) old mid new on cause
cause_after polled.TooLong old mid new on other cause = cause_behind polled.TooLong old mid new on cause
cause_after polled.NotYet old mid new on other cause = absurd (other refl)
cause_after (polled.Torn line) old mid new on other cause = cause_behind (polled.Torn line) old mid new on cause
cause_after polled.End old mid new on other cause = cause_behind polled.End old mid new on cause
cause_after polled.Failed old mid new on other cause = cause_behind polled.Failed old mid new on cause
cause_after polled.NoMemory old mid new on other cause = cause_behind polled.NoMemory old mid new on cause

-- an answer by what was read in turns before
pub cause_at_last : (given : Polled) (old mid new : Input) → GoesOn old mid → new.left ≡ mid.left → Answers given (fed mid.unread mid.held) new → HasCause given old new
cause_at_last given old mid new on left answers = cause_behind given old mid new on (cause_of_read given mid new left answers)
