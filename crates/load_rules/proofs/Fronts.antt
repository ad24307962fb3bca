-- What fits event by event fits in every prefix.
use Rattle.std.proofs.Common.{List, [], ◌∷◌, ◌++◌, sym, subst, append_assoc, append-nil}
use Rattle.load_rules.specs.Prefixes.{EachFits}

-- each element fits those before it, also in a front of the list
pub front_fits : {A : Type 0} (fits : List A → A → Type 0) (before front rest : List A) (next : A) → EachFits fits before (front ++ next ∷ rest) → fits (before ++ front) next × EachFits fits before (front ++ next ∷ [])
front_fits fits before [] rest next each = (subst (λ list. fits list next) (sym (append-nil before)) each.0, (each.0, tt))
front_fits fits before (first ∷ more) rest next each =
    let deeper = front_fits fits (before ++ first ∷ []) more rest next each.1
    in (subst (λ list. fits list next) (append_assoc before (first ∷ []) more) deeper.0, (each.0, deeper.1))

pub each_front : {A : Type 0} (fits : List A → A → Type 0) (before front rest : List A) → EachFits fits before (front ++ rest) → EachFits fits before front
each_front fits before [] rest each = tt
each_front fits before (first ∷ more) rest each = (each.0, each_front fits (before ++ first ∷ []) more rest each.1)

pub each_at : {A : Type 0} (fits : List A → A → Type 0) (before front rest : List A) (next : A) → EachFits fits before (front ++ next ∷ rest) → fits (before ++ front) next
each_at fits before front rest next each = (front_fits fits before front rest next each).0
