-- What a change of one stream's table leaves of the others.
use Rattle.std.proofs.Common.{◌≡◌, ℕ, List, [], ◌∷◌, Bool, true, false, cond, ◌&&◌, Option, None, Some, refl, sym, ◌∙◌, ap}
use Rattle.std.specs.Str.{bytes_eq}
use Rattle.std.proofs.lemmas.Slice.Eq.{bytes_eq-Decides}
use Rattle.std.proofs.lemmas.Bool.{false_from_ne_true, false≢true}
use Rattle.basics.specs.declared.stream.StreamId.{StreamId}
use Rattle.outside.specs.declared.table.StreamTable.{StreamTable}
use Rattle.outside.specs.Tables.{same_id, same_namespace, empty_table, table_in, changed}

-- Ids

namespace_is : (a b : Option (List ℕ)) → same_namespace a b ≡ true → a ≡ b
namespace_is None None e = refl
namespace_is None (Some b) e = cc
namespace_is (Some a) None e = cc
namespace_is (Some a) (Some b) e = ap Some ((bytes_eq-Decides a b).0 e)

namespace_own : (a : Option (List ℕ)) → same_namespace a a ≡ true
namespace_own None = refl
namespace_own (Some a) = (bytes_eq-Decides a a).1 refl

both_true : (a b : Bool) → (a && b) ≡ true → (a ≡ true) × (b ≡ true)
both_true true b e = (refl, e)
both_true false b e = absurd (false≢true e)

pub id_is : (a b : StreamId) → same_id a b ≡ true → a ≡ b
id_is a b e =
    let parts = both_true (bytes_eq a.name b.name) (same_namespace a.namespace b.namespace) e in
    let names : a.name ≡ b.name = (bytes_eq-Decides a.name b.name).0 parts.0 in
    let namespaces : a.namespace ≡ b.namespace = namespace_is a.namespace b.namespace parts.1 in
    ap (λ (n : List ℕ). record a { name = n }) names ∙ ap (λ (n : Option (List ℕ)). record b { namespace = n }) namespaces

pub id_own : (a : StreamId) → same_id a a ≡ true
id_own a = rw ((bytes_eq-Decides a.name a.name).1 refl) (namespace_own a.namespace)

pub id_apart : (a b : StreamId) → same_id a b ≡ false → same_id b a ≡ false
id_apart a b e = false_from_ne_true (same_id b a) (λ t. false≢true (sym e ∙ (ap (λ (c : StreamId). same_id c b) (sym (id_is b a t)) ∙ id_own b)))

-- Tables

abbrev pub KeepsId : (StreamTable → StreamTable) → Type 0
KeepsId change = (table : StreamTable) → (change table).id ≡ table.id

-- the stream's own table is the changed one
pub table_own : (change : StreamTable → StreamTable) (id : StreamId) (tables : List StreamTable) → KeepsId change → table_in (changed change id tables) id ≡ change (table_in tables id)
table_own change id [] keeps = rw (keeps (empty_table id), id_own id)
table_own change id (table ∷ tables) keeps = by_test (same_id table.id id) refl (table_own change id tables keeps) where
  by_test : (b : Bool) → same_id table.id id ≡ b → table_in (changed change id tables) id ≡ change (table_in tables id) → table_in (changed change id (table ∷ tables)) id ≡ change (table_in (table ∷ tables) id)
  by_test true e rest = rw (e, keeps table, e)
  by_test false e rest = rw (e, e) rest

-- every other table stays
pub table_other : (change : StreamTable → StreamTable) (id other : StreamId) (tables : List StreamTable) → KeepsId change → same_id id other ≡ false → table_in (changed change id tables) other ≡ table_in tables other
table_other change id other [] keeps apart = rw (keeps (empty_table id), apart)
table_other change id other (table ∷ tables) keeps apart = by_test (same_id table.id id) refl (table_other change id other tables keeps apart) where
  by_test : (b : Bool) → same_id table.id id ≡ b → table_in (changed change id tables) other ≡ table_in tables other → table_in (changed change id (table ∷ tables)) other ≡ table_in (table ∷ tables) other
  by_test true e rest =
      let differs : same_id table.id other ≡ false = ap (λ (c : StreamId). same_id c other) (id_is table.id id e) ∙ apart in
      rw (e, keeps table, differs)
  by_test false e rest = rw e (ap (λ (t : StreamTable). cond (same_id table.id other) table t) rest)
