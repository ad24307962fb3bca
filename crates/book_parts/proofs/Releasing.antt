-- States that are taken out of a gate, one after another.
use Rattle.std.proofs.Common.{arith, ◌≡◌, ◌≢◌, ◌⊎◌, inl, inr, ℕ, suc, ◌+◌, ◌<◌, List, [], ◌∷◌, length, find, Bool, true, false, Option, None, Some, Ok, option_map, unwrap_or, refl, sym, ap, subst}
use Rattle.std.specs.List.{AllByRecursion}
use Rattle.std.proofs.lemmas.Bool.{cases_Bool, false≢true}
use Rattle.std.proofs.lemmas.Option.{none-some}
use Rattle.airbyte_message.specs.declared.message.StateKind.TheVariants.{Legacy}
use Rattle.state_gate.specs.Content.{Content, head_in, head_of, is_clear, without_first, without_head}
use Rattle.state_gate.specs.Views.{GateView, Stands}
use Rattle.state_gate.specs.declared.pending.Pending.{Pending}
use Rattle.state_gate.specs.declared.pending.Waiting.{Waiting}
use Rattle.book_rules.specs.Holds.{HasKind}
use Rattle.book_rules.specs.Releases.{Point, Released, ReleasesSoFar, TakesHead}
use Rattle.book_parts.specs.Steps.{MayRelease, NextAnswer}

-- what a test finds among states with echoes has one
kind_found : (test : Waiting → Bool) (waiting : List Waiting) (found : Waiting) → AllByRecursion HasKind waiting → find test waiting ≡ Some found → HasKind found
kind_found test [] found all is = absurd (none-some found is)
kind_found test (first ∷ more) found all is = at (cases_Bool (test first)) (kind_found test more found all.1)
  where
    at : (test first ≡ true) ⊎ (test first ≡ false) → (find test more ≡ Some found → HasKind found) → HasKind found
    at (inl passes) deeper = let here = rw passes at is in let same = ap (λ one. unwrap_or one first) here in subst HasKind same all.0
    at (inr fails) deeper = deeper (rw fails at is)

-- without it there is one state less
one_less : (test : Waiting → Bool) (waiting : List Waiting) (found : Waiting) → find test waiting ≡ Some found → length (without_first test waiting) + 1 ≡ length waiting
one_less test [] found is = absurd (none-some found is)
one_less test (first ∷ more) found is = at (cases_Bool (test first)) (one_less test more found)
  where
    at : (test first ≡ true) ⊎ (test first ≡ false) → (find test more ≡ Some found → length (without_first test more) + 1 ≡ length more) → length (without_first test (first ∷ more)) + 1 ≡ length (first ∷ more)
    at (inl passes) deeper = rw passes (omega arith)
    at (inr fails) deeper = let rest = deeper (rw fails at is) in rw fails (omega arith)

-- and the others have echoes
kinds_left : (test : Waiting → Bool) (waiting : List Waiting) → AllByRecursion HasKind waiting → AllByRecursion HasKind (without_first test waiting)
kinds_left test [] all = tt
kinds_left test (first ∷ more) all = at (cases_Bool (test first)) (kinds_left test more all.1)
  where
    at : (test first ≡ true) ⊎ (test first ≡ false) → AllByRecursion HasKind (without_first test more) → AllByRecursion HasKind (without_first test (first ∷ more))
    at (inl passes) rest = rw passes all.1
    at (inr fails) rest = rw fails (all.0, rest)

none_left : (test : Waiting → Bool) (waiting : List Waiting) → find test waiting ≡ None → without_first test waiting ≡ waiting
none_left test [] none = refl
none_left test (first ∷ more) none = at (cases_Bool (test first)) (none_left test more)
  where
    at : (test first ≡ true) ⊎ (test first ≡ false) → (find test more ≡ None → without_first test more ≡ more) → without_first test (first ∷ more) ≡ first ∷ more
    at (inl passes) deeper = let found = rw passes at none in cc
    at (inr fails) deeper = rw fails (ap (λ rest. first ∷ rest) (deeper (rw fails at none)))

-- a state whose pending one is known
record IsHeadOf (content : Content) (pending : Pending) : Type 0 where
  found : Waiting
  is : head_in content ≡ Some found
  same : found.pending ≡ pending

head_as : (content : Content) (pending : Pending) → head_of content ≡ Some pending → IsHeadOf content pending
head_as content pending is = at (head_in content) refl is
  where
    at : (one : Option Waiting) → head_in content ≡ one → option_map (λ state. state.pending) one ≡ Some pending → IsHeadOf content pending
    at None e is = absurd (none-some pending is)
    at (Some found) e is = record { found = found; is = e; same = ap (λ one. unwrap_or one pending) is }

no_head : (content : Content) → head_of content ≡ None → head_in content ≡ None
no_head content none = at (head_in content) refl none
  where
    at : (one : Option Waiting) → head_in content ≡ one → option_map (λ state. state.pending) one ≡ None → head_in content ≡ None
    at None e none = e
    at (Some found) e none = absurd (none-some found.pending (sym none))

-- the state that may go has an echo
pub head_kind : (emitted : ℕ) (gate : GateView) (pending : Pending) → MayRelease emitted gate → ((content : Content) → Stands content gate → Some pending ≡ head_of content) → pending.state.kind ≢ Legacy
head_kind emitted gate pending can head =
    let found = head_as can.content pending (sym (head can.content can.stands)) in
    subst (λ one. one.state.kind ≢ Legacy) found.same (kind_found (is_clear can.content.uncommitted) can.content.waiting found.found can.kinds found.is)

-- the next ones can be released behind it
pub releases_on : (emitted : ℕ) (old new : GateView) (pending : Pending) → MayRelease emitted old → TakesHead pending old new → MayRelease (emitted + 1) new
releases_on emitted old new pending can takes =
    let found = head_as can.content pending (takes.head can.content can.stands) in
    let less = one_less (is_clear can.content.uncommitted) can.content.waiting found.found found.is in
    record {
      content = without_head can.content;
      stands = takes.left can.content can.stands;
      kinds = kinds_left (is_clear can.content.uncommitted) can.content.waiting can.kinds;
      room = omega (arith, less, can.room);
    }

-- fewer states wait behind it
pub fewer_wait : (emitted : ℕ) (old new : GateView) (pending : Pending) → MayRelease emitted old → TakesHead pending old new → length new.kept.waiting < length old.kept.waiting
fewer_wait emitted old new pending can takes =
    let found = head_as old.kept pending (takes.head old.kept refl) in
    let less = one_less (is_clear old.kept.uncommitted) old.kept.waiting found.found found.is in
    let left = ap (λ content. length content.waiting) (takes.left old.kept refl) in
    omega (arith, less, left)

-- where there is none, the gate stands for what it stood for
pub stays : (old new : GateView) (content : Content) → ((content : Content) → Stands content old → None ≡ head_of content) → ((content : Content) → Stands content old → Stands (without_head content) new) → Stands content old → Stands content new
stays old new content none left stands =
    let same = none_left (is_clear content.uncommitted) content.waiting (no_head content (sym (none content stands))) in
    subst (λ waiting. new.kept ≡ record content { waiting = waiting }) same (left content stands)

-- one turn of a release
pub next_released : (more : Bool) (old new : Point) → NextAnswer (Ok more) old new → more ≡ true → Released old new
next_released true old new released is = released
next_released false old new none is = absurd (false≢true is)

pub can_go_on : (old new : Point) → MayRelease old.emitted old.gate → Released old new → MayRelease new.emitted new.gate
can_go_on old new can released = subst (λ emitted. MayRelease emitted new.gate) (sym released.counted) (releases_on old.emitted old.gate new.gate released.pending can released.takes)

pub one_more : (first mid new : Point) → ReleasesSoFar first mid → Released mid new → ReleasesSoFar first new
one_more first mid new so_far released = record { count = suc so_far.count; releases = (mid, so_far.releases, released) }
