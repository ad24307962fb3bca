-- The lanes of streams, when one of them changes.
use Rattle.std.proofs.Common.{◌≡◌, ◌≢◌, ℕ, ◌<◌, List, map, length, sym, ◌∙◌, ap, subst, inl, inr, ◌⊎◌, slice_set}
use Rattle.std.proofs.lemmas.Bool.{cases_eq}
use Rattle.std.proofs.lemmas.List.{get_or-set_same, get_or-set_other, get_or-map}
use Rattle.book_queue.specs.declared.lane.Lane.{Lane}
use Rattle.book_queue.specs.Views.{lane_at, no_lane, sealed_to}

pub lane_same : (lanes : List Lane) (stream : ℕ) (lane : Lane) → stream < length lanes → lane_at (slice_set lanes stream lane) stream ≡ lane
lane_same lanes stream lane within = get_or-set_same lanes stream lane no_lane within

pub lane_other : (lanes : List Lane) (stream other : ℕ) (lane : Lane) → other ≢ stream → lane_at (slice_set lanes stream lane) other ≡ lane_at lanes other
lane_other lanes stream other lane apart = get_or-set_other lanes stream other lane no_lane apart

-- what holds of the changed lane, and of each other as it was
pub lanes_after : (P Q : ℕ → Lane → Type 0) (lanes : List Lane) (stream : ℕ) (lane : Lane) → stream < length lanes → ((other : ℕ) → other < length lanes → P other (lane_at lanes other)) → ((other : ℕ) → other ≢ stream → P other (lane_at lanes other) → Q other (lane_at lanes other)) → Q stream lane → (other : ℕ) → other < length lanes → Q other (lane_at (slice_set lanes stream lane) other)
lanes_after P Q lanes stream lane within all step own other below = at (cases_eq other stream)
  where
    at : (other ≡ stream) ⊎ (other ≡ stream → ⊥) → Q other (lane_at (slice_set lanes stream lane) other)
    at (inl same) = subst (λ number. Q number (lane_at (slice_set lanes stream lane) number)) (sym same) (subst (Q stream) (sym (lane_same lanes stream lane within)) own)
    at (inr apart) = subst (Q other) (sym (lane_other lanes stream other lane apart)) (step other apart (all other below))

-- each lane is sealed as far as it was
abbrev pub SameBehind : List Lane → List Lane → Type 0
SameBehind lanes others = (stream : ℕ) → (lane_at others stream).behind ≡ (lane_at lanes stream).behind

pub behind_same : (lanes : List Lane) (stream : ℕ) (lane : Lane) → stream < length lanes → lane.behind ≡ (lane_at lanes stream).behind → SameBehind lanes (slice_set lanes stream lane)
behind_same lanes stream lane within same other = at (cases_eq other stream)
  where
    at : (other ≡ stream) ⊎ (other ≡ stream → ⊥) → (lane_at (slice_set lanes stream lane) other).behind ≡ (lane_at lanes other).behind
    at (inl is) = subst (λ number. (lane_at (slice_set lanes stream lane) number).behind ≡ (lane_at lanes number).behind) (sym is) (ap (λ one. one.behind) (lane_same lanes stream lane within) ∙ same)
    at (inr apart) = ap (λ one. one.behind) (lane_other lanes stream other lane apart)

pub lane_sealed : (next : ℕ) (lanes : List Lane) (stream : ℕ) → stream < length lanes → lane_at (map (sealed_to next) lanes) stream ≡ sealed_to next (lane_at lanes stream)
lane_sealed next lanes stream within = get_or-map (sealed_to next) lanes stream no_lane no_lane within
