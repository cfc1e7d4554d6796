-- Numbers of lists of ranks.
use Rattle.std.proofs.Common.{◌≡◌, ◌≢◌, ℕ, suc, ◌+◌, ◌<◌, ◌≤◌, ⊎_elim, List, [], ◌∷◌, ◌++◌, length, get_or, set, map, refl, sym, ap, ap₂, subst, ◌∙◌, arith, length-append}
use Rattle.std.specs.declared.cmp.Ordering.{Ordering}
use Rattle.std.specs.declared.cmp.Ordering.TheVariants.{Equal}
use Rattle.std.specs.Ordering.{nat_cmp, ordering_then}
use Rattle.std.specs.Cmp.Lexicographic.{slice_cmp}
use Rattle.std.proofs.lemmas.Cmp.{tied_itself, nat_list_cmp_total}
use Rattle.std.proofs.lemmas.List.{length-set, get_or-set_same, get_or-set_other, get_or-map, length-map}
use Rattle.std.proofs.Math.ListN.{get_or-append}
use Rattle.std.proofs.Math.Seq.{get_or-append_seam}
use Rattle.ep_theory.specs.Rising.{rising}
use Rattle.ep_theory.specs.Kripke.{Kripke, IsState, links_of, successors}
use Rattle.ep_theory.specs.Kind.{node_cmp}
use Rattle.ep_theory.specs.Ranks.{signature}
use Rattle.ep_theory.proofs.CallerLemmas.{last_or_before, Contains-from_in}
use Rattle.ep_kripke.specs.Sources.{row_at}
use Rattle.ep_refine.specs.declared.signing.Key.{Key}
use Rattle.ep_refine.specs.declared.numbering.Keyed.{Keyed}
use Rattle.ep_refine.specs.Numbering.{OrdersAs}
use Rattle.ep_refine.specs.Groups.{IsWithin}
use Rattle.ep_refine.specs.Columns.{ranks_of, HasSlot, Slotted, OrdersRanks, AreColumns}
use Rattle.ep_refine.specs.Signing.{key_cmp, IsKey, HaveKeys, KeysOrder}
use Rattle.ep_refine.proofs.PlacesLemmas.{some_item}

-- a name that has a slot
pub slot_same : (names : List ℕ) (w : ℕ) (slots firsts : List ℕ) → HasSlot names slots firsts (get_or names w 0) → Slotted names w slots firsts slots firsts
slot_same names w slots firsts h = record { long = refl; few = omega arith; here = h; keeps = λ name k. k }

-- a name that gets one
pub slot_new : (names : List ℕ) (w : ℕ) (slots firsts slots' firsts' : List ℕ) → get_or names w 0 < length slots → (HasSlot names slots firsts (get_or names w 0) → ⊥) →
    slots' ≡ set slots (get_or names w 0) (length firsts) → firsts' ≡ firsts ++ w ∷ [] → Slotted names w slots firsts slots' firsts'
slot_new names w slots firsts slots' firsts' l none e f = subst (λ (ss : List ℕ). Slotted names w slots firsts ss firsts') (sym e) (subst (λ (fs : List ℕ). Slotted names w slots firsts (set slots (get_or names w 0) (length firsts)) fs) (sym f) (record {
  long = length-set slots (get_or names w 0) (length firsts);
  few = let a = length-append firsts (w ∷ []) in omega (arith, a);
  here = (
    (let a = length-append firsts (w ∷ []) in let s = slot in omega (arith, a, s)),
    ap (λ k. get_or names (get_or (firsts ++ w ∷ []) k 0) 0) slot ∙ ap (λ v. get_or names v 0) (get_or-append_seam firsts w [] 0),
  );
  keeps = λ name h.
      let apart : name ≢ get_or names w 0 = (λ q. none (subst (HasSlot names slots firsts) q h)) in
      let same : get_or (set slots (get_or names w 0) (length firsts)) name 0 ≡ get_or slots name 0 = get_or-set_other slots (get_or names w 0) name (length firsts) 0 apart in
      let inside = h.0 in (
        (let a = length-append firsts (w ∷ []) in omega (arith, a, same, inside)),
        ap (λ k. get_or names (get_or (firsts ++ w ∷ []) k 0) 0) same ∙ ap (λ v. get_or names v 0) (get_or-append firsts (w ∷ []) 0 (get_or slots name 0) h.0) ∙ h.1,
      );
}))
  where
    slot : get_or (set slots (get_or names w 0) (length firsts)) (get_or names w 0) 0 ≡ length firsts
    slot = get_or-set_same slots (get_or names w 0) (length firsts) 0 l

-- one world more
pub firsts_within : (n : ℕ) (firsts after : List ℕ) (w : ℕ) → IsWithin n firsts → w < n → after ≡ firsts ++ w ∷ [] → IsWithin n after
firsts_within n firsts after w h l e k m = subst (λ (fs : List ℕ). get_or fs k 0 < n) (sym e) (⊎_elim
    (λ (q : k ≡ length firsts). subst (λ v. v < n) (sym (ap (λ j. get_or (firsts ++ w ∷ []) j 0) q ∙ get_or-append_seam firsts w [] 0)) l)
    (λ (d : k < length firsts). subst (λ v. v < n) (sym (get_or-append firsts (w ∷ []) 0 k d)) (h k d))
    (last_or_before k (length firsts) (let a = length-append firsts (w ∷ []) in let b = ap length e in let z : k < suc (length firsts) = omega (arith, a, b, m) in z)))

pub slots_more : (names worlds : List ℕ) (i : ℕ) (slots firsts slots' firsts' : List ℕ) → Slotted names (get_or worlds i 0) slots firsts slots' firsts' →
    ((k : ℕ) → k < i → HasSlot names slots firsts (get_or names (get_or worlds k 0) 0)) → (k : ℕ) → k < i + 1 → HasSlot names slots' firsts' (get_or names (get_or worlds k 0) 0)
slots_more names worlds i slots firsts slots' firsts' s h k l = ⊎_elim
    (λ (q : k ≡ i). subst (λ j. HasSlot names slots' firsts' (get_or names (get_or worlds j 0) 0)) (sym q) s.here)
    (λ (d : k < i). s.keeps (get_or names (get_or worlds k 0) 0) (h k d))
    (last_or_before k i (let z : k < suc i = omega (arith, l) in z))

-- the numbers of the rows' lists order the worlds' lists
module _ {X : Type 0} (cmp : X → X → Ordering) (value : X → List ℕ) (same : (x y : X) → cmp x y ≡ slice_cmp nat_cmp (value x) (value y))
    (pairs : List (ℕ × ℕ)) (rank : ℕ → ℕ) (names : List ℕ) (rows : List (List ℕ)) (n : ℕ) (row : (w : ℕ) → w < n → row_at rows (get_or names w 0) ≡ successors pairs w)
    (worlds slots firsts : List ℕ) (within : IsWithin n worlds) (within' : IsWithin n firsts) (has : (k : ℕ) → k < length worlds → HasSlot names slots firsts (get_or names (get_or worlds k 0) 0))
    (lists : List X) (lists_are : map value lists ≡ map (ranks_of pairs rank) firsts) (numbers : List ℕ) (ordered : OrdersAs cmp lists numbers) where
  long : length lists ≡ length firsts
  long = sym (length-map lists value) ∙ ap length lists_are ∙ length-map firsts (ranks_of pairs rank)

  pub slot_inside : (k : ℕ) → k < length worlds → get_or slots (get_or names (get_or worlds k 0) 0) 0 < length numbers
  slot_inside k l = let h = (has k l).0 in let o = ordered.one_each in omega (arith, h, o, long)

  same_ranks : (v w : ℕ) → v < n → w < n → get_or names v 0 ≡ get_or names w 0 → ranks_of pairs rank v ≡ ranks_of pairs rank w
  same_ranks v w a b e = ap (λ (ts : List ℕ). rising nat_cmp (map rank ts)) (sym (row v a) ∙ ap (row_at rows) e ∙ row w b)

  list_at : (k : ℕ) (d : X) → k < length worlds → value (get_or lists (get_or slots (get_or names (get_or worlds k 0) 0) 0) d) ≡ ranks_of pairs rank (get_or worlds k 0)
  list_at k d l =
      let s = get_or slots (get_or names (get_or worlds k 0) 0) 0 in
      let h = has k l in
      let inside = h.0 in
      sym (get_or-map value lists s d (value d) (omega (arith, inside, long)))
      ∙ ap (λ (ls : List (List ℕ)). get_or ls s (value d)) lists_are
      ∙ get_or-map (ranks_of pairs rank) firsts s 0 (value d) inside
      ∙ same_ranks (get_or firsts s 0) (get_or worlds k 0) (within' s inside) (within k l) h.1

  pub spread_orders : (column : List ℕ) → column ≡ map (λ w. get_or numbers (get_or slots (get_or names w 0) 0) 0) worlds → OrdersRanks pairs rank worlds column
  spread_orders column e = record {
    one_each = ap length e ∙ length-map worlds (λ w. get_or numbers (get_or slots (get_or names w 0) 0) 0);
    ordered = λ i j a b.
        let s = get_or slots (get_or names (get_or worlds i 0) 0) 0 in
        let t = get_or slots (get_or names (get_or worlds j 0) 0) 0 in
        let c = (has i a).0 in
        let f = (has j b).0 in
        let d = (some_item lists s (omega (arith, c, long))).0 in
        ap₂ nat_cmp (at i a) (at j b) ∙ ordered.ordered s t d (omega (arith, c, long)) (omega (arith, f, long)) ∙ same (get_or lists s d) (get_or lists t d)
        ∙ ap₂ (slice_cmp nat_cmp) (list_at i d a) (list_at j d b);
  }
    where
      at : (k : ℕ) → k < length worlds → get_or column k 0 ≡ get_or numbers (get_or slots (get_or names (get_or worlds k 0) 0) 0) 0
      at k l = ap (λ (c : List ℕ). get_or c k 0) e ∙ get_or-map (λ w. get_or numbers (get_or slots (get_or names w 0) 0) 0) worlds k 0 0 l

-- one agent more
pub columns_more : (S : Kripke) (rank : ℕ → ℕ) (worlds : List ℕ) (columns after : List (List ℕ)) (a : ℕ) (column : List ℕ) → length columns ≡ a → after ≡ columns ++ column ∷ [] → OrdersRanks (links_of S a) rank worlds column →
    ((b : ℕ) → b < length columns → OrdersRanks (links_of S b) rank worlds (get_or columns b [])) → (b : ℕ) → b < length after → OrdersRanks (links_of S b) rank worlds (get_or after b [])
columns_more S rank worlds columns after a column long e one before b l = subst (λ (cs : List (List ℕ)). OrdersRanks (links_of S b) rank worlds (get_or cs b [])) (sym e) (⊎_elim
    (λ (q : b ≡ length columns). subst (λ (c : List ℕ). OrdersRanks (links_of S b) rank worlds c) (sym (ap (λ k. get_or (columns ++ column ∷ []) k []) q ∙ get_or-append_seam columns column [] []))
    (subst (λ k. OrdersRanks (links_of S k) rank worlds column) (sym (q ∙ long)) one))
    (λ (m : b < length columns). subst (λ (c : List ℕ). OrdersRanks (links_of S b) rank worlds c) (sym (get_or-append columns (column ∷ []) [] b m)) (before b m))
    (last_or_before b (length columns) (let f = ap length e ∙ length-append columns (column ∷ []) in let z : b < suc (length columns) = omega (arith, f, l) in z)))

-- numbers that compare as lists do, item by item, compare as the lists of these lists
equal_lists : (xs ys : List ℕ) → length xs ≡ length ys → ((i : ℕ) → get_or xs i 0 ≡ get_or ys i 0) → slice_cmp nat_cmp xs ys ≡ Equal
equal_lists xs ys l h = ap (slice_cmp nat_cmp xs) (sym (same xs ys l h)) ∙ tied_itself nat_list_cmp_total xs
  where
    same : (xs ys : List ℕ) → length xs ≡ length ys → ((i : ℕ) → get_or xs i 0 ≡ get_or ys i 0) → xs ≡ ys
    same [] [] l h = refl
    same [] (y ∷ ys) l h = absurd (omega (arith, l))
    same (x ∷ xs) [] l h = absurd (omega (arith, l))
    same (x ∷ xs) (y ∷ ys) l h = ap₂ (λ z zs. z ∷ zs) (h 0) (same xs ys (omega (arith, l)) (λ i. h (suc i)))

pub by_items : {A : Type 0} (d : A) (f g : A → List ℕ) (ls : List A) (xs ys : List ℕ) → length xs ≡ length ys → length ls ≤ length xs →
    ((i : ℕ) → i < length ls → nat_cmp (get_or xs i 0) (get_or ys i 0) ≡ slice_cmp nat_cmp (f (get_or ls i d)) (g (get_or ls i d))) → ((i : ℕ) → length ls ≤ i → get_or xs i 0 ≡ get_or ys i 0) →
    slice_cmp nat_cmp xs ys ≡ slice_cmp (slice_cmp nat_cmp) (map f ls) (map g ls)
by_items d f g [] xs ys e few h r = equal_lists xs ys e (λ i. r i (omega arith))
by_items d f g (l ∷ ls) [] ys e few h r = absurd (omega (arith, few))
by_items d f g (l ∷ ls) (x ∷ xs) [] e few h r = absurd (omega (arith, e))
by_items d f g (l ∷ ls) (x ∷ xs) (y ∷ ys) e few h r = ap₂ ordering_then (h 0 (omega arith))
    (by_items d f g ls xs ys (omega (arith, e)) (omega (arith, few)) (λ i m. h (suc i) (omega (arith, m))) (λ i m. r (suc i) (omega (arith, m))))

-- keys compare as signatures
pub keys_alike : (S : Kripke) → IsState S → (rank : ℕ → ℕ) (worlds : List ℕ) (columns : List (List ℕ)) → AreColumns S rank worlds columns → S.agents ≤ 8 →
    (i j : ℕ) → i < length worlds → j < length worlds → (x y : Key) → IsKey (rank (get_or worlds i 0)) columns i x → IsKey (rank (get_or worlds j 0)) columns j y →
    key_cmp x y ≡ node_cmp nat_cmp (signature S rank (get_or worlds i 0)) (signature S rank (get_or worlds j 0))
keys_alike S s rank worlds columns are few i j a b x y k m =
    ap₂ ordering_then (ap₂ nat_cmp k.is_older m.is_older)
    (by_items [] (λ pairs. ranks_of pairs rank (get_or worlds i 0)) (λ pairs. ranks_of pairs rank (get_or worlds j 0)) S.links x.numbers y.numbers (k.long ∙ sym m.long)
    (let r = s.relations in let l = k.long in omega (arith, r, l, few))
    (λ c l. let in_c : c < length columns = (let r = s.relations in let o = are.one_each in omega (arith, r, o, l)) in ap₂ nat_cmp (k.numbers c in_c) (m.numbers c in_c) ∙ (are.each c in_c).ordered i j a b)
    (λ c l. let out : length columns ≤ c = (let r = s.relations in let o = are.one_each in omega (arith, r, o, l)) in k.rest c out ∙ sym (m.rest c out)))

-- each item has the key of its world
pub keys_order : (S : Kripke) → IsState S → (rank : ℕ → ℕ) (worlds : List ℕ) (columns : List (List ℕ)) → AreColumns S rank worlds columns → S.agents ≤ 8 → (items : List (Keyed Key)) → map (λ x. x.world) items ≡ worlds →
    HaveKeys rank worlds columns items → KeysOrder (signature S rank) items
keys_order S s rank worlds columns are few items e keys x y i j =
    let p = Contains-from_in x items i in
    let q = Contains-from_in y items j in
    let long : length items ≡ length worlds = sym (length-map items (λ x. x.world)) ∙ ap length e in
    let kx : IsKey (rank (get_or worlds p.0 0)) columns p.0 x.key = subst (λ (z : Keyed Key). IsKey (rank (get_or worlds p.0 0)) columns p.0 z.key) p.2 (keys p.0 x p.1) in
    let ky : IsKey (rank (get_or worlds q.0 0)) columns q.0 y.key = subst (λ (z : Keyed Key). IsKey (rank (get_or worlds q.0 0)) columns q.0 z.key) q.2 (keys q.0 y q.1) in
    keys_alike S s rank worlds columns are few p.0 q.0 (let l = p.1 in omega (arith, l, long)) (let l = q.1 in omega (arith, l, long)) x.key y.key kx ky
    ∙ ap₂ (λ u v. node_cmp nat_cmp (signature S rank u) (signature S rank v)) (sym (world_is x p.0 p.1 p.2)) (sym (world_is y q.0 q.1 q.2))
  where
    world_is : (z : Keyed Key) (k : ℕ) → k < length items → get_or items k z ≡ z → z.world ≡ get_or worlds k 0
    world_is z k l f = sym (ap (λ (x : Keyed Key). x.world) f) ∙ sym (get_or-map (λ (x : Keyed Key). x.world) items k z 0 l) ∙ ap (λ (ws : List ℕ). get_or ws k 0) e

pub keys_more : (rank : ℕ → ℕ) (worlds : List ℕ) (columns : List (List ℕ)) (items after : List (Keyed Key)) (k : ℕ) (x : Keyed Key) → length items ≡ k → after ≡ items ++ x ∷ [] → IsKey (rank (get_or worlds k 0)) columns k x.key →
    HaveKeys rank worlds columns items → HaveKeys rank worlds columns after
keys_more rank worlds columns items after k x long e one before i d l = subst (λ (xs : List (Keyed Key)). IsKey (rank (get_or worlds i 0)) columns i (get_or xs i d).key) (sym e) (⊎_elim
    (λ (q : i ≡ length items). subst (λ (z : Keyed Key). IsKey (rank (get_or worlds i 0)) columns i z.key) (sym (ap (λ j. get_or (items ++ x ∷ []) j d) q ∙ get_or-append_seam items x [] d))
    (subst (λ j. IsKey (rank (get_or worlds j 0)) columns j x.key) (sym (q ∙ long)) one))
    (λ (m : i < length items). subst (λ (z : Keyed Key). IsKey (rank (get_or worlds i 0)) columns i z.key) (sym (get_or-append items (x ∷ []) d i m)) (before i d m))
    (last_or_before i (length items) (let f = ap length e ∙ length-append items (x ∷ []) in let z : i < suc (length items) = omega (arith, f, l) in z)))
