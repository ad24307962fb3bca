-- A phase that is neither in a string nor in a word goes by the class of the byte.
use Rattle.std.proofs.Common.{◌≡◌, ℕ, refl, ◌∙◌, ap}
use Rattle.json_span.specs.Table.{class_of, table, move_of}
use Rattle.json_span.specs.declared.phase.Role.{Role}
use Rattle.json_span.specs.declared.phase.Spot.{Spot}
use Rattle.json_span.specs.declared.phase.Letter.{Letter}
use Rattle.json_span.specs.declared.phase.Phase.{Phase}
use Rattle.json_span.specs.declared.phase.Phase.TheVariants as phase
use Rattle.json_span.proofs.table.move_at.Goals as goal

by_class : (p : Phase) (b : ℕ) → ((r : Role) (s : Spot) → p ≡ phase.Text r s → ⊥) → ((l : Letter) → p ≡ phase.Word l → ⊥) → table p (class_of b) ≡ move_of p b
by_class (phase.Text r s) b h k = absurd (h r s refl)
by_class (phase.Word l) b h k = absurd (k l refl)
by_class (phase.Start f) b h k = refl
by_class phase.FirstKey b h k = refl
by_class phase.Key b h k = refl
by_class phase.Colon b h k = refl
by_class phase.FirstItem b h k = refl
by_class phase.Value b h k = refl
by_class phase.After b h k = refl
by_class phase.Done b h k = refl
by_class (phase.Number p) b h k = refl
by_class phase.Broken b h k = refl

pub returns-in_default : goal.returns-in_default
returns-in_default c = c.between.ensures ∙ ap (λ k. table c.args.phase k) c.classify.ensures ∙ by_class c.args.phase c.args.byte c.in_default.not-Text c.in_default.not-Word
