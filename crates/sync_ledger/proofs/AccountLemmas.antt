-- Accounts by their places are those of the streams and of the lanes.
use Rattle.std.proofs.Common.{arith, ◌≡◌, ℕ, zero, suc, ◌<◌, List, [], ◌∷◌, length, set, slice_get, get_or, Option, None, Some, option_map, Bool, true, false, cond, refl, sym, ◌∙◌, ap, subst}
use Rattle.std.specs.List.{AllByRecursion}
use Rattle.basics.specs.declared.stream.StreamId.{StreamId}
use Rattle.stream_index.specs.Distinct.{AreDistinct}
use Rattle.stream_index.specs.Same.{is_same_stream}
use Rattle.stream_index.proofs.IndexLemmas.{Decides-stream}
use Rattle.airbyte_message.specs.Lanes.{Lane, one, all}
use Rattle.sync_ledger.specs.Accounts.{AllAccounts, account_of, changed_lane, lane_in, with_account, with_lane}
use Rattle.sync_ledger.specs.Kept.{HasPlace, IsPlaceOf, changed_at, changed_nth, lane_at}
use Rattle.sync_ledger.specs.declared.accounts.Account.{Account}
use Rattle.sync_ledger.specs.declared.accounts.LaneAccount.{LaneAccount}
use Rattle.sync_ledger.specs.declared.accounts.LanePlace.{LanePlace}
use Rattle.sync_ledger.specs.declared.accounts.LanePlace.TheVariants as place

none_some : {A : Type 0} (a : A) → None ≡ Some a → ⊥
none_some a e = cc

pub one_value : {A : Type 0} (a b : A) → Some a ≡ Some b → a ≡ b
one_value a b e = cc

pub by_test : {P : Type 0} (b : Bool) → (b ≡ true → P) → (b ≡ false → P) → P
by_test true passes fails = passes refl
by_test false passes fails = fails refl

-- a write at a place
pub set_is : (change : Account → Account) (accounts : List Account) (n : ℕ) (account : Account) → n < length accounts → account ≡ get_or accounts n account → set accounts n (change account) ≡ changed_nth change accounts n
set_is change [] n account within is = absurd (omega (arith, within))
set_is change (first ∷ more) zero account within is = ap (λ (a : Account). change a ∷ more) is
set_is change (first ∷ more) (suc n) account within is = ap (λ (found : List Account). first ∷ found) (set_is change more n account (omega (arith, within)) is)

pub get_is : (accounts : List Account) (n : ℕ) (account : Account) → n < length accounts → account ≡ get_or accounts n account → slice_get accounts n ≡ Some account
get_is [] n account within is = absurd (omega (arith, within))
get_is (first ∷ more) zero account within is = ap (λ (a : Account). Some a) (sym is)
get_is (first ∷ more) (suc n) account within is = get_is more n account (omega (arith, within)) is

pub changed_length : (change : Account → Account) (accounts : List Account) (n : ℕ) → length (changed_nth change accounts n) ≡ length accounts
changed_length change [] n = refl
changed_length change (account ∷ accounts) zero = refl
changed_length change (account ∷ accounts) (suc n) = ap suc (changed_length change accounts n)

-- what holds of all accounts, where one is changed
pub all_changed : (P Q : Account → Type 0) (change : Account → Account) (accounts : List Account) (n : ℕ) → ((account : Account) → P account → Q account) → ((account : Account) → slice_get accounts n ≡ Some account → P account → Q (change account)) → AllByRecursion P accounts → AllByRecursion Q (changed_nth change accounts n)
all_changed P Q change [] n same new ps = tt
all_changed P Q change (account ∷ accounts) zero same new ps = (new account refl ps.0, rest accounts ps.1)
  where
    rest : (found : List Account) → AllByRecursion P found → AllByRecursion Q found
    rest [] qs = tt
    rest (a ∷ more) qs = (same a qs.0, rest more qs.1)
all_changed P Q change (account ∷ accounts) (suc n) same new ps = (same account ps.0, all_changed P Q change accounts n same new ps.1)

pub all_same : (P Q : Account → Type 0) (accounts : List Account) → ((account : Account) → P account → Q account) → AllByRecursion P accounts → AllByRecursion Q accounts
all_same P Q [] same ps = tt
all_same P Q (account ∷ accounts) same ps = (same account ps.0, all_same P Q accounts same ps.1)

pub all_at : (P : Account → Type 0) (accounts : List Account) (n : ℕ) (account : Account) → AllByRecursion P accounts → slice_get accounts n ≡ Some account → P account
all_at P [] n account ps at = absurd (none_some account at)
all_at P (first ∷ more) zero account ps at = subst P (one_value first account at) ps.0
all_at P (first ∷ more) (suc n) account ps at = all_at P more n account ps.1 at

-- ---- streams

tail_distinct : (id : StreamId) (ids : List StreamId) → AreDistinct (id ∷ ids) → AreDistinct ids
tail_distinct id ids distinct i j item at also = let e : suc i ≡ suc j = distinct (suc i) (suc j) item at also in omega (arith, e)

-- the first stream is another, where the one that is looked for stands behind it
head_differs : (own id : StreamId) (ids : List StreamId) (n : ℕ) → AreDistinct (own ∷ ids) → slice_get ids n ≡ Some id → is_same_stream own id ≡ false
head_differs own id ids n distinct at = by_test (is_same_stream own id)
    (λ same. let e : suc n ≡ 0 = distinct (suc n) 0 id at (ap (λ (x : StreamId). Some x) ((Decides-stream own id).0 same)) in absurd (omega (arith, e)))
    (λ other. other)

head_same : (own id : StreamId) → Some own ≡ Some id → is_same_stream own id ≡ true
head_same own id is = (Decides-stream own id).1 (one_value own id is)

pub account_at : (ids : List StreamId) (id : StreamId) (accounts : List Account) (n : ℕ) → AreDistinct ids → length accounts ≡ length ids → slice_get ids n ≡ Some id → account_of ids id accounts ≡ slice_get accounts n
account_at [] id accounts n distinct long at = absurd (none_some id at)
account_at (own ∷ ids) id [] n distinct long at = absurd (omega (arith, long))
account_at (own ∷ ids) id (account ∷ accounts) zero distinct long at = ap (λ (b : Bool). cond b (Some account) (account_of ids id accounts)) (head_same own id at)
account_at (own ∷ ids) id (account ∷ accounts) (suc n) distinct long at =
    ap (λ (b : Bool). cond b (Some account) (account_of ids id accounts)) (head_differs own id ids n distinct at)
    ∙ account_at ids id accounts n (tail_distinct own ids distinct) (omega (arith, long)) at

pub with_account_at : (ids : List StreamId) (id : StreamId) (change : Account → Account) (accounts : List Account) (n : ℕ) → AreDistinct ids → length accounts ≡ length ids → slice_get ids n ≡ Some id → with_account ids id change accounts ≡ changed_nth change accounts n
with_account_at [] id change accounts n distinct long at = absurd (none_some id at)
with_account_at (own ∷ ids) id change [] n distinct long at = absurd (omega (arith, long))
with_account_at (own ∷ ids) id change (account ∷ accounts) zero distinct long at = ap (λ (b : Bool). cond b (change account ∷ accounts) (account ∷ with_account ids id change accounts)) (head_same own id at)
with_account_at (own ∷ ids) id change (account ∷ accounts) (suc n) distinct long at =
    ap (λ (b : Bool). cond b (change account ∷ accounts) (account ∷ with_account ids id change accounts)) (head_differs own id ids n distinct at)
    ∙ ap (λ (found : List Account). account ∷ found) (with_account_at ids id change accounts n (tail_distinct own ids distinct) (omega (arith, long)) at)

-- a stream that is not there
head_absent : (own id : StreamId) (ids : List StreamId) → ((n : ℕ) → ¬ (slice_get (own ∷ ids) n ≡ Some id)) → is_same_stream own id ≡ false
head_absent own id ids absent = by_test (is_same_stream own id) (λ same. absurd (absent 0 (ap (λ (x : StreamId). Some x) ((Decides-stream own id).0 same)))) (λ other. other)

pub account_none : (ids : List StreamId) (id : StreamId) (accounts : List Account) → ((n : ℕ) → ¬ (slice_get ids n ≡ Some id)) → account_of ids id accounts ≡ None
account_none [] id accounts absent = refl
account_none (own ∷ ids) id [] absent = refl
account_none (own ∷ ids) id (account ∷ accounts) absent =
    ap (λ (b : Bool). cond b (Some account) (account_of ids id accounts)) (head_absent own id ids absent)
    ∙ account_none ids id accounts (λ n. absent (suc n))

pub with_account_none : (ids : List StreamId) (id : StreamId) (change : Account → Account) (accounts : List Account) → length accounts ≡ length ids → ((n : ℕ) → ¬ (slice_get ids n ≡ Some id)) → with_account ids id change accounts ≡ accounts
with_account_none [] id change accounts long absent = refl
with_account_none (own ∷ ids) id change [] long absent = refl
with_account_none (own ∷ ids) id change (account ∷ accounts) long absent =
    ap (λ (b : Bool). cond b (change account ∷ accounts) (account ∷ with_account ids id change accounts)) (head_absent own id ids absent)
    ∙ ap (λ (found : List Account). account ∷ found) (with_account_none ids id change accounts (omega (arith, long)) (λ n. absent (suc n)))

-- ---- lanes

pub lane_place : (ids : List StreamId) (accounts : AllAccounts) (lane : Lane) (at : LanePlace) → AreDistinct ids → length accounts.streams ≡ length ids → IsPlaceOf ids (Some lane) (Some at) → lane_in ids accounts lane ≡ lane_at accounts at
lane_place ids accounts (one id) (place.Stream n) distinct long is = ap (λ (a : Option Account). option_map (λ account. account.lane) a) (account_at ids id accounts.streams n distinct long is)
lane_place ids accounts (one id) place.Global distinct long is = absurd is
lane_place ids accounts all (place.Stream n) distinct long is = absurd is
lane_place ids accounts all place.Global distinct long is = refl

pub with_lane_place : (ids : List StreamId) (accounts : AllAccounts) (lane : Lane) (at : LanePlace) (change : LaneAccount → LaneAccount) → AreDistinct ids → length accounts.streams ≡ length ids → IsPlaceOf ids (Some lane) (Some at) → with_lane ids accounts lane change ≡ changed_at change accounts at
with_lane_place ids accounts (one id) (place.Stream n) change distinct long is = ap (λ (found : List Account). record accounts { streams = found }) (with_account_at ids id (changed_lane change) accounts.streams n distinct long is)
with_lane_place ids accounts (one id) place.Global change distinct long is = absurd is
with_lane_place ids accounts all (place.Stream n) change distinct long is = absurd is
with_lane_place ids accounts all place.Global change distinct long is = refl

pub lane_none : (ids : List StreamId) (accounts : AllAccounts) (lane : Lane) → IsPlaceOf ids (Some lane) None → lane_in ids accounts lane ≡ None
lane_none ids accounts (one id) is = ap (λ (a : Option Account). option_map (λ account. account.lane) a) (account_none ids id accounts.streams is)
lane_none ids accounts all is = absurd is

pub with_lane_none : (ids : List StreamId) (accounts : AllAccounts) (lane : Lane) (change : LaneAccount → LaneAccount) → length accounts.streams ≡ length ids → IsPlaceOf ids (Some lane) None → with_lane ids accounts lane change ≡ accounts
with_lane_none ids accounts (one id) change long is = ap (λ (found : List Account). record accounts { streams = found }) (with_account_none ids id (changed_lane change) accounts.streams long is)
with_lane_none ids accounts all change long is = absurd is

place_within : (ids : List StreamId) (id : StreamId) (n : ℕ) → slice_get ids n ≡ Some id → n < length ids
place_within [] id n at = absurd (none_some id at)
place_within (own ∷ ids) id zero at = omega arith
place_within (own ∷ ids) id (suc n) at = omega (arith, place_within ids id n at)

pub stream_within : (ids : List StreamId) (accounts : List Account) (id : StreamId) (n : ℕ) → length accounts ≡ length ids → slice_get ids n ≡ Some id → n < length accounts
stream_within ids accounts id n long at = omega (arith, place_within ids id n at, long)

pub has_place : (ids : List StreamId) (accounts : AllAccounts) (lane : Option Lane) (at : LanePlace) → length accounts.streams ≡ length ids → IsPlaceOf ids lane (Some at) → HasPlace accounts at
has_place ids accounts (Some (one id)) (place.Stream n) long is = stream_within ids accounts.streams id n long is
has_place ids accounts (Some (one id)) place.Global long is = tt
has_place ids accounts (Some all) (place.Stream n) long is = absurd is
has_place ids accounts (Some all) place.Global long is = tt
has_place ids accounts None at long is = absurd (let e : None ≡ Some at = sym is in none_some at e)
