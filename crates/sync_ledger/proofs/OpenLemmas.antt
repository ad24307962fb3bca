-- A new account of each stream of a catalog.
use Rattle.std.proofs.Common.{arith, ◌≡◌, ℕ, zero, suc, ◌+◌, ◌<◌, ◌≤◌, List, [], ◌∷◌, ◌++◌, length, map, take, slice_get, Option, Some, None, refl, sym, ◌∙◌, ap, subst}
use Rattle.std.proofs.lemmas.List.{map_push}
use Rattle.std.specs.List.{AllByRecursion}
use Rattle.basics.specs.declared.stream.StreamId.{StreamId}
use Rattle.stream_index.specs.Distinct.{AreDistinct}
use Rattle.catalog.specs.Configured.{AreConfigured}
use Rattle.catalog.specs.Reading.{ids_of}
use Rattle.catalog.specs.declared.stream.ConfStream.{ConfStream}
use Rattle.sync_ledger.specs.Accounts.{AllAccounts, new_account, new_accounts, new_lane}
use Rattle.sync_ledger.specs.Kept.{AreWithin, IsKept, IsWithin}
use Rattle.sync_ledger.specs.Noted.{nothing_noted}
use Rattle.sync_ledger.specs.declared.accounts.Account.{Account}
use Rattle.sync_ledger.specs.declared.form.StateForm.{StateForm}

no_first : {A : Type 0} (a : A) → None ≡ Some a → ⊥
no_first a e = cc

pub id_at : (streams : List ConfStream) (n : ℕ) (stream : ConfStream) → slice_get streams n ≡ Some stream → slice_get (ids_of streams) n ≡ Some stream.id
id_at [] n stream at = absurd (no_first stream at)
id_at (s ∷ streams) zero stream at = ap (λ (x : ConfStream). Some x.id) (let e : Some s ≡ Some stream = at in let one : s ≡ stream = cc in one)
id_at (s ∷ streams) (suc n) stream at = id_at streams n stream at

pub ids_length : (streams : List ConfStream) → length (ids_of streams) ≡ length streams
ids_length [] = refl
ids_length (s ∷ streams) = ap suc (ids_length streams)

-- what stands in a front stands there in the whole
front_place : (ids : List StreamId) (n p : ℕ) (id : StreamId) → slice_get (take n ids) p ≡ Some id → (slice_get ids p ≡ Some id) × (p < n)
front_place ids zero p id at = absurd (no_first id at)
front_place [] (suc n) p id at = absurd (no_first id at)
front_place (own ∷ ids) (suc n) zero id at = (at, omega arith)
front_place (own ∷ ids) (suc n) (suc p) id at = let r = front_place ids n p id at in (r.0, let h = r.1 in omega arith)

pub absent_before : (ids front : List StreamId) (n : ℕ) (id : StreamId) → AreDistinct ids → slice_get ids n ≡ Some id → front ≡ take n ids → (p : ℕ) → ¬ (slice_get front p ≡ Some id)
absent_before ids front n id distinct at is p there =
    let r = front_place ids n p id (ap (λ (l : List StreamId). slice_get l p) (sym is) ∙ there) in
    let same : p ≡ n = distinct p n id r.0 at in
    let less : p < n = r.1 in
    absurd (omega (arith, same, less))

take_one : (ids : List StreamId) (n : ℕ) (id : StreamId) → slice_get ids n ≡ Some id → take (n + 1) ids ≡ take n ids ++ id ∷ []
take_one ids n id at = ap (λ (k : ℕ). take k ids) (next n) ∙ more ids n at
  where
    next : (k : ℕ) → k + 1 ≡ suc k
    next k = omega arith

    more : (l : List StreamId) (k : ℕ) → slice_get l k ≡ Some id → take (suc k) l ≡ take k l ++ id ∷ []
    more [] k here = absurd (no_first id here)
    more (own ∷ l) zero here = ap (λ (x : StreamId). x ∷ []) (let e : Some own ≡ Some id = here in let one : own ≡ id = cc in one)
    more (own ∷ l) (suc k) here = ap (λ (rest : List StreamId). own ∷ rest) (more l k here)

pub index_more : (ids front more : List StreamId) (n : ℕ) (id : StreamId) → slice_get ids n ≡ Some id → front ≡ take n ids → more ≡ front ++ id ∷ [] → more ≡ take (n + 1) ids
index_more ids front more n id at is grown = grown ∙ (ap (λ (l : List StreamId). l ++ id ∷ []) is ∙ sym (take_one ids n id at))

pub accounts_more : (ids : List StreamId) (accounts more : AllAccounts) (n : ℕ) (id : StreamId) → slice_get ids n ≡ Some id → accounts ≡ new_accounts (take n ids) → more ≡ record { streams = accounts.streams ++ new_account ∷ []; global = accounts.global } → more ≡ new_accounts (take (n + 1) ids)
accounts_more ids accounts more n id at is grown =
    grown ∙ (ap (λ (a : AllAccounts). record { streams = a.streams ++ new_account ∷ []; global = a.global }) is
    ∙ (ap (λ (l : List Account). record { streams = l; global = new_lane }) (sym (map_push (λ (x : StreamId). new_account) (take n ids) id)) ∙ ap new_accounts (sym (take_one ids n id at))))

take_whole : (ids : List StreamId) (n : ℕ) → length ids ≤ n → take n ids ≡ ids
take_whole [] zero all = refl
take_whole [] (suc n) all = refl
take_whole (id ∷ ids) zero all = absurd (omega (arith, all))
take_whole (id ∷ ids) (suc n) all = ap (λ (l : List StreamId). id ∷ l) (take_whole ids n (omega (arith, all)))

pub index_done : (ids index : List StreamId) (n : ℕ) → length ids ≤ n → index ≡ take n ids → index ≡ ids
index_done ids index n all is = is ∙ take_whole ids n all

pub accounts_done : (ids : List StreamId) (accounts : AllAccounts) (n : ℕ) → length ids ≤ n → accounts ≡ new_accounts (take n ids) → accounts ≡ new_accounts ids
accounts_done ids accounts n all is = is ∙ ap new_accounts (take_whole ids n all)

new_within : (ids : List StreamId) → AllByRecursion (IsWithin 0 0) (map (λ (id : StreamId). new_account) ids)
new_within [] = tt
new_within (id ∷ ids) = (record { records = omega arith; lane = record { since = omega arith; pending = omega arith } }, new_within ids)

new_length : (ids : List StreamId) → length (map (λ (id : StreamId). new_account) ids) ≡ length ids
new_length [] = refl
new_length (id ∷ ids) = ap suc (new_length ids)

pub new_are_within : (ids : List StreamId) → AreWithin 0 0 (new_accounts ids)
new_are_within ids = record { streams = new_within ids; global = record { since = omega arith; pending = omega arith } }

pub new_streams : (ids : List StreamId) → length (new_accounts ids).streams ≡ length ids
new_streams ids = new_length ids

new_kept : (streams : List ConfStream) (form : Option StateForm) → AreConfigured streams → IsKept (nothing_noted (ids_of streams) form)
new_kept streams form are = record {
  distinct = are.distinct;
  few = let long = ids_length streams in omega (arith, are.few, long);
  streams = new_streams (ids_of streams);
  lines = omega arith;
  held = omega arith;
  within = new_are_within (ids_of streams);
}

pub opened_kept : (streams : List ConfStream) (index : List StreamId) (accounts : AllAccounts) (form : Option StateForm) → AreConfigured streams → index ≡ ids_of streams → accounts ≡ new_accounts (ids_of streams) → IsKept (record { ids = index; accounts = accounts; form = form; lines = 0; held = [] })
opened_kept streams index accounts form are same_ids same_accounts =
    subst (λ (ids : List StreamId). IsKept (record { ids = ids; accounts = accounts; form = form; lines = 0; held = [] })) (sym same_ids)
    (subst (λ (a : AllAccounts). IsKept (record { ids = ids_of streams; accounts = a; form = form; lines = 0; held = [] })) (sym same_accounts) (new_kept streams form are))
