-- What becomes of the guides of a list.
use Rattle.std.proofs.Common.{◌≡◌, ◌≤◌, ◌<◌, ℕ, zero, suc, List, [], ◌∷◌, Option, Some, length, slice_get, slice_index_or, slice_set, refl, sym, ap, subst, ◌∙◌, arith}
use Rattle.std.proofs.lemmas.Option.{slice_get-get_or, same_Some}
use Rattle.std.proofs.lemmas.List.{length-set}
use Rattle.ep_planning.specs.Asked.{KeepsBut}

same_count : {G : Type 0} (count : G → ℕ) (o : Option G) (before after : G) → o ≡ Some before → o ≡ Some after → count before ≤ count after
same_count count o before after b a = let e : count before ≡ count after = ap count (same_Some before after (sym b ∙ a)) in omega arith

-- a list that is left alone
pub keeps_all : {G : Type 0} (count : G → ℕ) (may_ask : ℕ → Type 0) (guides : List G) → KeepsBut count may_ask guides guides
keeps_all count may_ask guides = record {
  number = refl;
  others = λ place none. refl;
  grows = λ place before after b a. same_count count (slice_get guides place) before after b a;
}

set_others : {G : Type 0} (xs : List G) (n k : ℕ) (v : G) → (k ≡ n → ⊥) → slice_get (slice_set xs n v) k ≡ slice_get xs k
set_others [] n k v other = refl
set_others (x ∷ xs) zero zero v other = absurd (other refl)
set_others (x ∷ xs) zero (suc k) v other = refl
set_others (x ∷ xs) (suc n) zero v other = refl
set_others (x ∷ xs) (suc n) (suc k) v other = set_others xs n k v (λ e. other (ap suc e))

set_grows : {G : Type 0} (count : G → ℕ) (xs : List G) (n k : ℕ) (was v before after : G) → slice_get xs n ≡ Some was → count was ≤ count v
    → slice_get xs k ≡ Some before → slice_get (slice_set xs n v) k ≡ Some after → count before ≤ count after
set_grows count [] n k was v before after w le b a = absurd (cc b)
set_grows count (x ∷ xs) zero zero was v before after w le b a =
    let e : count before ≡ count was = ap count (same_Some before was (sym b ∙ w)) in
    let f : count v ≡ count after = ap count (same_Some v after a) in
    omega arith
set_grows count (x ∷ xs) zero (suc k) was v before after w le b a = same_count count (slice_get xs k) before after b a
set_grows count (x ∷ xs) (suc n) zero was v before after w le b a = same_count count (Some x) before after b a
set_grows count (x ∷ xs) (suc n) (suc k) was v before after w le b a = set_grows count xs n k was v before after w le b a

-- a list of which one guide changed
pub keeps_others : {G : Type 0} (count : G → ℕ) (old : List G) (place : ℕ) (before after : G) → place < length old → before ≡ slice_index_or old place before
    → count before ≤ count after → KeepsBut count (λ other. other ≡ place) old (slice_set old place after)
keeps_others count old place before after within is grows = record {
  number = length-set old place after;
  others = λ other no. set_others old place other after no;
  grows = λ other b a was now. set_grows count old place other before after b a (slice_get-get_or old place before within ∙ ap Some (sym is)) grows was now;
}
