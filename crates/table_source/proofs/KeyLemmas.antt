-- The parts of a row.
use Rattle.std.proofs.Common.{◌≡◌, ◌∙◌, ◌<◌, ◌+◌, inl, ℕ, List, [], ◌∷◌, ◌++◌, length, take, get_or, Option, None, Some, codes, Bool, refl, sym, ap, subst, arith}
use Rattle.std.specs.List.{AllZip}
use Rattle.std.proofs.lemmas.List.{take_more}
use Rattle.json_span.specs.Members.{IsValue}
use Rattle.json_squeeze.specs.Dense.{SqueezesValues, StaysObject}
use Rattle.json_squeeze.specs.Squeeze.{squeezed}
use Rattle.value_order.specs.declared.value.Value.{Value}
use Rattle.value_order.specs.declared.value.Value.TheVariants.{Null}
use Rattle.catalog.specs.Entry.{PathNames}
use Rattle.column_types.specs.Values.{IsData, IsFoundValue, Reaches}
use Rattle.column_types.specs.Words.{IsValueAlong}
use Rattle.table_source.specs.Keyed.{IsBodyOf, IsPartAt, IsRowBody}
use Rattle.table_source.specs.declared.keyed.RowPart.{RowPart}

pub part_found : (body : List ℕ) (path : PathNames) (instants : Bool) (text : List ℕ) (value : Value) (part : RowPart)
    → IsData body → Reaches body path (Some text) → IsValueAlong text [] instants value → part ≡ record { value = value; text = text } → IsPartAt body path instants part
part_found body path instants text value part data_is reached along is =
    subst (λ (p : RowPart). IsPartAt body path instants p) (sym is) (record {
      value = record { found = Some text; stands = inl (data_is, reached); is = subst (λ (f : Option (List ℕ)). IsFoundValue instants f value) along.reached along.is };
      text = refl;
    })

pub part_missing : (body : List ℕ) (path : PathNames) (instants : Bool) (part : RowPart)
    → IsData body → Reaches body path None → part ≡ record { value = Null; text = codes "null" } → IsPartAt body path instants part
part_missing body path instants part data_is reached is =
    subst (λ (p : RowPart). IsPartAt body path instants p) (sym is) (record {
      value = record { found = None; stands = inl (data_is, reached); is = refl };
      text = refl;
    })

-- a row's body without white space
pub body_of : SqueezesValues → (text made : List ℕ) → IsRowBody text → made ≡ squeezed text → StaysObject text made → IsBodyOf text made
body_of law text made fits is stays =
    let object = fits.object.object in
    let kept = stays fits.object.deep fits.members object in
    record {
      fits = fits;
      is = is;
      object = record { members = kept.0; object = record { deep = fits.object.deep; within = omega (arith, fits.object.within); object = kept.1 } };
      value = subst IsValue (sym is) ((law text object.value (record { before = object.before; after = object.after; spelled = object.spells.spelled })).value object.spells.utf8);
    }

zip_push : {X Y : Type 0} (R : X → Y → Type 0) (xs : List X) (ys : List Y) (x : X) (y : Y) → AllZip R xs ys → R x y → AllZip R (xs ++ x ∷ []) (ys ++ y ∷ [])
zip_push R [] [] x y all here = (here, tt)
zip_push R [] (b ∷ ys) x y all here = absurd all
zip_push R (a ∷ xs) [] x y all here = absurd all
zip_push R (a ∷ xs) (b ∷ ys) x y all here = (all.0, zip_push R xs ys x y all.1 here)

-- one element more of both lists
pub zip_more : {X Y : Type 0} (R : X → Y → Type 0) (xs : List X) (ys now : List Y) (at : ℕ) (x : X) (y : Y)
    → at < length xs → x ≡ get_or xs at x → AllZip R (take at xs) ys → R x y → now ≡ ys ++ y ∷ [] → AllZip R (take (at + 1) xs) now
zip_more {X} {Y} R xs ys now at x y within is all here now_is =
    let taken : take (at + 1) xs ≡ take at xs ++ x ∷ [] = take_more xs at x within ∙ ap (λ (e : X). take at xs ++ e ∷ []) (sym is) in
    subst (λ (l : List X). AllZip R l now) (sym taken) (subst (λ (l : List Y). AllZip R (take at xs ++ x ∷ []) l) (sym now_is) (zip_push R (take at xs) ys x y all here))
