-- Lines that are said one after another: what was said is a front of the whole, wherever saying stops.
use Rattle.std.proofs.Common.{◌≡◌, ◌⊎◌, inl, inr, ℕ, ◌≤◌, List, [], ◌∷◌, ◌++◌, Option, None, Some, refl, sym, ◌∙◌, ap, append_assoc, arith}
use Rattle.std.proofs.lemmas.List.{append-nil}
use Rattle.basics.specs.Told.{told_more, Rose, GrewByFront}
use Rattle.outside.specs.Desk.{DeskSeen, SaidLines, SaysOnly, SaidFront}

pub told_more-twice : {A : Type 0} (front more : List A) (before : Option (List A)) → told_more more (told_more front before) ≡ told_more (front ++ more) before
told_more-twice front more None = refl
told_more-twice front more (Some before) = ap (λ (xs : _). Some xs) (append_assoc before front more)

pub told_more-none : {A : Type 0} (before : Option (List A)) → told_more [] before ≡ before
told_more-none None = refl
told_more-none (Some before) = ap (λ (xs : _). Some xs) (append-nil before)

-- nothing of it was told
pub front_none : (whole : List (List ℕ)) (before now : Option (List (List ℕ))) → now ≡ before → GrewByFront whole before now
front_none whole before now e = record { front = []; rest = whole; splits = refl; grew = e ∙ sym (told_more-none before) }

-- all of it
pub front_all : (whole : List (List ℕ)) (before now : Option (List (List ℕ))) → now ≡ told_more whole before → GrewByFront whole before now
front_all whole before now e = record { front = whole; rest = []; splits = sym (append-nil whole); grew = e }

-- a front of a part, behind a part that was told
pub front_behind : (whole front piece rest : List (List ℕ)) (before mid now : Option (List (List ℕ))) → whole ≡ front ++ (piece ++ rest) → mid ≡ told_more front before → GrewByFront piece mid now → GrewByFront whole before now
front_behind whole front piece rest before mid now splits said grew = record {
  front = front ++ grew.front;
  rest = grew.rest ++ rest;
  splits = splits ∙ (ap (λ (ls : List (List ℕ)). front ++ (ls ++ rest)) grew.splits ∙ (ap (λ (ls : List (List ℕ)). front ++ ls) (append_assoc grew.front grew.rest rest) ∙ sym (append_assoc front grew.front (grew.rest ++ rest))));
  grew = grew.grew ∙ (ap (λ (t : Option (List (List ℕ))). told_more grew.front t) said ∙ told_more-twice front grew.front before);
}

-- two parts, one behind the other
pub front_first : (a b : List (List ℕ)) (before now : Option (List (List ℕ))) → GrewByFront a before now → GrewByFront (a ++ b) before now
front_first a b before now grew = record {
  front = grew.front;
  rest = grew.rest ++ b;
  splits = ap (λ (ls : List (List ℕ)). ls ++ b) grew.splits ∙ append_assoc grew.front grew.rest b;
  grew = grew.grew;
}

pub front_second : (a b : List (List ℕ)) (before mid now : Option (List (List ℕ))) → mid ≡ told_more a before → GrewByFront b mid now → GrewByFront (a ++ b) before now
front_second a b before mid now said grew = front_behind (a ++ b) a b [] before mid now (ap (λ (ls : List (List ℕ)). a ++ ls) (sym (append-nil b))) said grew

pub told_both : (a b : List (List ℕ)) (before mid now : Option (List (List ℕ))) → mid ≡ told_more a before → now ≡ told_more b mid → now ≡ told_more (a ++ b) before
told_both a b before mid now said more = more ∙ (ap (λ (t : Option (List (List ℕ))). told_more b t) said ∙ told_more-twice a b before)

-- a front of nothing is nothing, and one of a single line is that line or nothing
empty_front : (front rest : List (List ℕ)) → [] ≡ front ++ rest → front ≡ []
empty_front [] rest e = refl
empty_front (line ∷ front) rest e = absurd (cc)

single_front : (line : List ℕ) (front rest : List (List ℕ)) → line ∷ [] ≡ front ++ rest → (front ≡ []) ⊎ (front ≡ line ∷ [])
single_front line [] rest e = inl refl
single_front line (first ∷ front) rest e = inr (cons_is line first front rest e)
  where
    cons_is : (l f : List ℕ) (fs r : List (List ℕ)) → l ∷ [] ≡ f ∷ (fs ++ r) → f ∷ fs ≡ l ∷ []
    cons_is l f [] r e = cc
    cons_is l f (x ∷ xs) r e = absurd (cc)

pub none_told : (before now : Option (List (List ℕ))) → GrewByFront [] before now → now ≡ before
none_told before now grew = grew.grew ∙ (ap (λ (ls : List (List ℕ)). told_more ls before) (empty_front grew.front grew.rest grew.splits) ∙ told_more-none before)

pub none_or_one : (line : List ℕ) (before now : Option (List (List ℕ))) → GrewByFront (line ∷ []) before now → (now ≡ before) ⊎ (now ≡ told_more (line ∷ []) before)
none_or_one line before now grew = by_front (single_front line grew.front grew.rest grew.splits)
  where
    by_front : (grew.front ≡ []) ⊎ (grew.front ≡ line ∷ []) → (now ≡ before) ⊎ (now ≡ told_more (line ∷ []) before)
    by_front (inl none) = inl (grew.grew ∙ (ap (λ (ls : List (List ℕ)). told_more ls before) none ∙ told_more-none before))
    by_front (inr one) = inr (grew.grew ∙ ap (λ (ls : List (List ℕ)). told_more ls before) one)

-- nothing was said, and nothing else has changed
pub only_none : (failed : Type 0) (seen : DeskSeen) → ¬ failed → SaysOnly failed seen seen
only_none failed seen fine = record { faults = record { kept = omega arith; rose = λ f. absurd (fine f) }; texts = refl; read_faults = refl }

-- a count that rose later has risen from before
later_rose : (old mid new : ℕ) → old ≤ mid → Rose mid new → Rose old new
later_rose old mid new kept rose = omega arith

-- one call behind another
pub only_then : (none failed : Type 0) (old mid new : DeskSeen) → SaysOnly none old mid → SaysOnly failed mid new → SaysOnly failed old new
only_then none failed old mid new before after = record {
  faults = record { kept = omega (arith, before.faults.kept, after.faults.kept); rose = λ f. later_rose old.say_faults mid.say_faults new.say_faults before.faults.kept (after.faults.rose f) };
  texts = after.texts ∙ before.texts;
  read_faults = after.read_faults ∙ before.read_faults;
}

-- the failure by another name
pub only_where : (failed other : Type 0) (old new : DeskSeen) → (other → failed) → SaysOnly failed old new → SaysOnly other old new
only_where failed other old new same only = record { faults = record { kept = only.faults.kept; rose = λ o. only.faults.rose (same o) }; texts = only.texts; read_faults = only.read_faults }

-- the same of fronts of lines
pub says_none : (failed : Type 0) (lines : List (List ℕ)) (seen : DeskSeen) → ¬ failed → SaidFront failed lines seen seen
says_none failed lines seen fine = record { front = front_none lines seen.said seen.said refl; only = only_none failed seen fine }

pub says_where : (failed other : Type 0) (lines : List (List ℕ)) (old new : DeskSeen) → (other → failed) → SaidFront failed lines old new → SaidFront other lines old new
says_where failed other lines old new same says = record { front = says.front; only = only_where failed other old new same says.only }

-- a front of a part, behind a part that was said
pub says_behind : (none failed : Type 0) (whole front piece rest : List (List ℕ)) (old mid new : DeskSeen) → whole ≡ front ++ (piece ++ rest) → SaidLines front old mid → SaysOnly none old mid → SaidFront failed piece mid new → SaidFront failed whole old new
says_behind none failed whole front piece rest old mid new splits said before says = record {
  front = front_behind whole front piece rest old.said mid.said new.said splits said says.front;
  only = only_then none failed old mid new before says.only;
}

-- two parts, one behind the other
pub says_first : (failed : Type 0) (a b : List (List ℕ)) (old new : DeskSeen) → SaidFront failed a old new → SaidFront failed (a ++ b) old new
says_first failed a b old new says = record { front = front_first a b old.said new.said says.front; only = says.only }

pub says_second : (none failed : Type 0) (a b : List (List ℕ)) (old mid new : DeskSeen) → SaidLines a old mid → SaysOnly none old mid → SaidFront failed b mid new → SaidFront failed (a ++ b) old new
says_second none failed a b old mid new said before says =
    says_behind none failed (a ++ b) a b [] old mid new (ap (λ (ls : List (List ℕ)). a ++ ls) (sym (append-nil b))) said before says

pub said_both : (a b : List (List ℕ)) (old mid new : DeskSeen) → SaidLines a old mid → SaidLines b mid new → SaidLines (a ++ b) old new
said_both a b old mid new said more = told_both a b old.said mid.said new.said said more
