-- Equivalences, told by rows of successors.
use Rattle.std.proofs.Common.{◌≡◌, ℕ, ◌<◌, Bool, List, [], length, get_or, IsTrue, sym, ◌∙◌, subst, arith}
use Rattle.std.specs.List.{AllByRecursion}
use Rattle.std.specs.Ordering.{nat_cmp}
use Rattle.std.proofs.lemmas.List.{get_or_default}
use Rattle.ep_logic.specs.Packed.{bit_in, unpacked, IsPacked}
use Rattle.ep_logic.specs.Rows.{value_at}
use Rattle.ep_theory.specs.Rising.{IsIn, IsRising}
use Rattle.ep_theory.specs.Kripke.{Kripke, IsState, pair_cmp, links_of, successors}
use Rattle.ep_theory.specs.Equivalences.{IsEquivalence, IsS5}
use Rattle.ep_theory.specs.Relations.{all_pairs}
use Rattle.ep_theory.proofs.CallerLemmas.{All-at, at_All, All-from_each, Contains-from_in, numbers, same_rising, from_row_pairs, row_pairs_rise, successors-all_pairs, to_classes, from_classes, rising_numbers, rising_successors, links_rising, links_within, from_successors}
use Rattle.ep_kripke.specs.Relations.{members, named_rows}
use Rattle.ep_kripke.specs.States.{AreRow}
use Rattle.ep_kripke.specs.Equivalence.{IsShared, IsClass}
use Rattle.ep_kripke.proofs.NameLemmas.{row_seen}
use Rattle.ep_kripke.proofs.RelationLemmas.{member_is}

-- rows of words with the same bits have the same members
members_rise : (row : List Bool) → IsRising nat_cmp (members row)
unfolding members
members_rise row = rising_numbers (value_at row) (length row)

pub same_members : (a b : List ℕ) (n m : ℕ) → IsPacked a n → IsPacked b m → ((k : ℕ) → IsTrue (bit_in a k) → IsTrue (bit_in b k)) → ((k : ℕ) → IsTrue (bit_in b k) → IsTrue (bit_in a k)) → members (unpacked a n) ≡ members (unpacked b m)
same_members a b n m p q f g = same_rising nat_cmp numbers (members (unpacked a n)) (members (unpacked b m)) (members_rise (unpacked a n)) (members_rise (unpacked b m))
    (λ k i. (member_is b m k q).0 (f k ((member_is a n k p).1 i)))
    (λ k i. (member_is a n k p).0 (g k ((member_is b m k q).1 i)))

pub same_bits_from : (a b : List ℕ) (n m : ℕ) → IsPacked a n → IsPacked b m → members (unpacked a n) ≡ members (unpacked b m) → (k : ℕ) → IsTrue (bit_in a k) → IsTrue (bit_in b k)
same_bits_from a b n m p q e k t = (member_is b m k q).1 (subst (IsIn k) e ((member_is a n k p).0 t))

-- the rows of an equivalence are its classes, as the law of equivalences says of their pairs
module _ (rows : List (List ℕ)) (fit : AllByRecursion (AreRow (length rows)) rows) where
  row : (w : ℕ) → w < length rows → AreRow (length rows) (get_or rows w [])
  row w l = All-at (AreRow (length rows)) rows w [] l fit

  below : (w v : ℕ) → w < length rows → IsIn v (get_or rows w []) → v < length rows
  below w v l i = at_All (λ v. v < length rows) v (get_or rows w []) (row w l).within i

  own : (w : ℕ) → w < length rows → successors (all_pairs rows) w ≡ get_or rows w []
  own w l = successors-all_pairs rows w l

  rises : IsRising pair_cmp (all_pairs rows)
  rises = row_pairs_rise rows (length rows) (omega arith) (All-from_each (IsRising nat_cmp) rows (λ r i. (at_All (AreRow (length rows)) r rows fit i).rising))

  within : AllByRecursion (λ p. (p.0 < length rows) × (p.1 < length rows)) (all_pairs rows)
  within = All-from_each (λ (p : ℕ × ℕ). (p.0 < length rows) × (p.1 < length rows)) (all_pairs rows) (λ p i.
      let r = from_row_pairs rows (length rows) p.0 p.1 i in (r.0, below p.0 p.1 r.0 r.1))

  pub from_equivalence : IsEquivalence (length rows) (all_pairs rows) → (w : ℕ) → w < length rows → IsClass rows w
  from_equivalence e w l =
      let c = to_classes (length rows) (all_pairs rows) rises within e w l in
      record {
        itself = subst (IsIn w) (own w l) c.0;
        same = λ v i. sym (own v (below w v l i)) ∙ at_All (λ v. successors (all_pairs rows) v ≡ successors (all_pairs rows) w) v (successors (all_pairs rows) w) c.1 (subst (IsIn v) (sym (own w l)) i) ∙ own w l;
      }

  pub to_equivalence : ((w : ℕ) → w < length rows → IsClass rows w) → IsEquivalence (length rows) (all_pairs rows)
  to_equivalence c = from_classes (length rows) (all_pairs rows) within (λ w l. (
    subst (IsIn w) (sym (own w l)) (c w l).itself,
    All-from_each (λ v. successors (all_pairs rows) v ≡ successors (all_pairs rows) w) (successors (all_pairs rows) w) (λ v i.
        let j : IsIn v (get_or rows w []) = subst (IsIn v) (own w l) i in
        own v (below w v l j) ∙ (c w l).same v j ∙ sym (own w l)),
  ))

-- the class of a world by the names of rows
pub class_is : (names : List ℕ) (rows seen : List (List ℕ)) (w : ℕ) → named_rows names rows ≡ seen → AllByRecursion (AreRow (length seen)) seen → w < length seen → IsIn w (get_or rows (get_or names w 0) []) → IsShared rows names (get_or names w 0) → IsClass seen w
class_is names rows seen w e fit l i s =
    let here : get_or rows (get_or names w 0) [] ≡ get_or seen w [] = row_seen names rows seen w e l in
    record {
      itself = subst (IsIn w) here i;
      same = λ v j.
          let m : v < length seen = at_All (λ v. v < length seen) v (get_or seen w []) (All-at (AreRow (length seen)) seen w [] l fit).within j in
          sym (row_seen names rows seen v e m) ∙ s v (subst (IsIn v) (sym here) j) ∙ here;
    }

pub class_shared : (names : List ℕ) (rows seen : List (List ℕ)) (w : ℕ) → named_rows names rows ≡ seen → AllByRecursion (AreRow (length seen)) seen → w < length seen → IsClass seen w → IsIn w (get_or rows (get_or names w 0) []) × IsShared rows names (get_or names w 0)
class_shared names rows seen w e fit l c =
    let here : get_or rows (get_or names w 0) [] ≡ get_or seen w [] = row_seen names rows seen w e l in (
      subst (IsIn w) (sym here) c.itself,
      λ v j.
          let k : IsIn v (get_or seen w []) = subst (IsIn v) here j in
          let m : v < length seen = at_All (λ v. v < length seen) v (get_or seen w []) (All-at (AreRow (length seen)) seen w [] l fit).within k in
          row_seen names rows seen v e m ∙ c.same v k ∙ sym here,
    )

-- the rows of a state fit
pub relation_fits : (S : Kripke) → IsState S → (a : ℕ) (rows : List (List ℕ)) → length rows ≡ S.worlds → ((w : ℕ) → w < S.worlds → get_or rows w [] ≡ successors (links_of S a) w) → AllByRecursion (AreRow (length rows)) rows
relation_fits S s a rows long each = All-from_each (AreRow (length rows)) rows (λ row i.
    let k = Contains-from_in row rows i in
    let w : k.0 < S.worlds = omega (arith, k.1, long) in
    let is : successors (links_of S a) k.0 ≡ row = sym (each k.0 w) ∙ get_or_default rows k.0 [] row k.1 ∙ k.2 in
    subst (AreRow (length rows)) is (record {
      rising = rising_successors (links_of S a) k.0 (links_rising S s a);
      within = All-from_each (λ v. v < length rows) (successors (links_of S a) k.0) (λ v j. let l = (links_within S s a k.0 v (from_successors k.0 v (links_of S a) j)).1 in omega (arith, l, long));
    }))

-- all agents
pub all_equivalences : (S : Kripke) → ((a : ℕ) → a < length S.links → IsEquivalence S.worlds (links_of S a)) → IsS5 S
all_equivalences S h = All-from_each (IsEquivalence S.worlds) S.links (λ pairs i.
    let k = Contains-from_in pairs S.links i in
    subst (IsEquivalence S.worlds) (get_or_default S.links k.0 [] pairs k.1 ∙ k.2) (h k.0 k.1))

pub one_equivalence : (S : Kripke) → IsS5 S → (a : ℕ) → a < length S.links → IsEquivalence S.worlds (links_of S a)
one_equivalence S h a l = All-at (IsEquivalence S.worlds) S.links a [] l h
