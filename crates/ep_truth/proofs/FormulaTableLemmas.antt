-- Trees of numbered nodes.
use Rattle.std.proofs.Common.{take_all, ◌≡◌, ℕ, zero, suc, ◌==◌, ◌+◌, ◌<◌, ◌≤◌, List, [], ◌∷◌, ◌++◌, length, map, sum_by, take, get_or, append_assoc, refl, ap, ap₂, ◌∙◌, sym, subst, arith, drop, nat_lt, Bool, true, false, IsTrue}
use Rattle.std.proofs.Math.Bool.{beq}
use Rattle.std.specs.Cmp.Lexicographic.{pointwise}
use Rattle.ep_theory.proofs.CallerLemmas.{and_parts, equal_from_test}
use Rattle.ep_theory.specs.Fits.{fits_in}
use Rattle.std.proofs.lemmas.List.Folds.{list_all-append}
use Rattle.std.proofs.lemmas.List.{append-nil, take_more, map-append}
use Rattle.std.proofs.lemmas.List.Sums.{sum-map, sum_by_more, sum_by_more_le}
use Rattle.std.specs.List.{AllByRecursion, list_all}
use Rattle.ep_logic.specs.Nodes.{node_count, count_step}
use Rattle.ep_logic.specs.declared.ids.AgentId.{AgentId}
use Rattle.ep_logic.specs.declared.formula.Node.TheOpen.{Node-F}
use Rattle.ep_logic.specs.declared.formula.Node.TheFolds.{fold-roll-Node}
use Rattle.ep_logic.proofs.CallerLemmas.{get_or-last, get_or-left, length-snoc, count-And, count-Or}
use Rattle.ep_logic.specs.declared.formula.Node.{Node}
use Rattle.ep_logic.specs.declared.formula.Node.TheVariants.{True, Not, And, Or, Knows, Common, rolls-Not, rolls-Knows, rolls-Common}
use Rattle.ep_logic.specs.AgentSets.{is_nobody}
use Rattle.ep_truth.proofs.FitLemmas.{fits_in-Not, fits_in-And, fits_in-Or, fits_in-Knows, fits_in-Common}
use Rattle.ep_truth.specs.declared.formula_table.Entry.{Entry}
use Rattle.ep_truth.specs.FormulaTables.{tree_at, tree_of, with_trees, trees_of, IsBelow, AreOrdered, AreNumbersOf, KeepsTrees, AreFit, StayFit, AllStayFit}

pub kept_itself : (trees : List Node) → KeepsTrees trees trees
kept_itself trees = ([], sym (append-nil trees))

pub kept_after : (old mid new : List Node) → KeepsTrees old mid → KeepsTrees mid new → KeepsTrees old new
kept_after old mid new p q = (p.0 ++ q.0, q.1 ∙ ap (λ xs. xs ++ q.0) p.1 ∙ append_assoc old p.0 q.0)

pub kept_at : (old new : List Node) (n : ℕ) → KeepsTrees old new → n < length old → tree_at new n ≡ tree_at old n
kept_at old new n k l = ap (λ xs. tree_at xs n) k.1 ∙ get_or-left old k.0 n True l

module _ (old new : List Node) (k : KeepsTrees old new) where
  kept_map : (ns : List ℕ) → AllByRecursion (λ n. n < length old) ns → map (tree_at new) ns ≡ map (tree_at old) ns
  kept_map [] b = refl
  kept_map (n ∷ ns) b = ap₂ ◌∷◌ (kept_at old new n k b.0) (kept_map ns b.1)

  -- an entry has the same tree, since its parts have
  pub kept_tree : (e : Entry) → IsBelow (length old) e → tree_of new e ≡ tree_of old e
  kept_tree Entry.True b = refl
  kept_tree Entry.False b = refl
  kept_tree (Entry.Atom p) b = refl
  kept_tree (Entry.Not n) b = ap Not (kept_at old new n k b)
  kept_tree (Entry.And ns) b = ap And (kept_map ns b)
  kept_tree (Entry.Or ns) b = ap Or (kept_map ns b)
  kept_tree (Entry.Knows a n) b = ap (Knows a) (kept_at old new n k b)
  kept_tree (Entry.Common g n) b = ap (Common g) (kept_at old new n k b)

with_trees-snoc : (trees : List Node) (es : List Entry) (e : Entry) → with_trees trees (es ++ e ∷ []) ≡ with_trees trees es ++ tree_of (with_trees trees es) e ∷ []
with_trees-snoc trees [] e = refl
with_trees-snoc trees (x ∷ es) e = with_trees-snoc (trees ++ tree_of trees x ∷ []) es e

with_trees-keeps : (trees : List Node) (es : List Entry) → KeepsTrees trees (with_trees trees es)
with_trees-keeps trees [] = kept_itself trees
with_trees-keeps trees (e ∷ es) =
    let next = trees ++ tree_of trees e ∷ [] in
    kept_after trees next (with_trees next es) (tree_of trees e ∷ [], refl) (with_trees-keeps next es)

length-with_trees : (trees : List Node) (es : List Entry) → length (with_trees trees es) ≡ length trees + length es
length-with_trees trees [] = omega arith
length-with_trees trees (e ∷ es) = let i = length-with_trees (trees ++ tree_of trees e ∷ []) es in omega (arith, length-snoc trees (tree_of trees e))

with_trees-at : (trees : List Node) (es : List Entry) (i : ℕ) (d : Entry) → AreOrdered (length trees) es → i < length es →
    IsBelow (length trees + i) (get_or es i d) × (tree_at (with_trees trees es) (length trees + i) ≡ tree_of (with_trees trees es) (get_or es i d))
with_trees-at trees [] i d o l = absurd (omega arith)
with_trees-at trees (e ∷ es) zero d o l =
    let next = trees ++ tree_of trees e ∷ [] in
    let all = with_trees next es in
    let here : tree_at all (length trees) ≡ tree_of trees e =
    kept_at next all (length trees) (with_trees-keeps next es) (omega (arith, length-snoc trees (tree_of trees e))) ∙ get_or-last trees (tree_of trees e) True in
    let zero_more : length trees + 0 ≡ length trees = omega arith in (
      subst (λ n. IsBelow n e) (sym zero_more) o.0,
      ap (tree_at all) zero_more ∙ here ∙ sym (kept_tree trees all (with_trees-keeps trees (e ∷ es)) e o.0),
    )
with_trees-at trees (e ∷ es) (suc i) d o l =
    let next = trees ++ tree_of trees e ∷ [] in
    let all = with_trees next es in
    let long : length next ≡ length trees + 1 = length-snoc trees (tree_of trees e) ∙ omega arith in
    let shift : length next + i ≡ length trees + suc i = omega (arith, long) in
    let found = with_trees-at next es i d (subst (λ n. AreOrdered n es) (sym long) o.1) (omega (arith, l)) in (
      subst (λ n. IsBelow n (get_or es i d)) shift found.0,
      ap (tree_at all) (sym shift) ∙ found.1,
    )

pub length-trees : (es : List Entry) → length (trees_of es) ≡ length es
unfolding trees_of
length-trees es = length-with_trees [] es ∙ omega arith

pub trees-none : trees_of [] ≡ []
unfolding trees_of
trees-none = refl

pub trees-snoc : (es : List Entry) (e : Entry) → trees_of (es ++ e ∷ []) ≡ trees_of es ++ tree_of (trees_of es) e ∷ []
unfolding trees_of
trees-snoc es e = with_trees-snoc [] es e

pub entry_at : (es : List Entry) (i : ℕ) (d : Entry) → AreOrdered 0 es → i < length es →
    IsBelow i (get_or es i d) × (tree_at (trees_of es) i ≡ tree_of (trees_of es) (get_or es i d))
unfolding trees_of
entry_at es i d o l = let e : length {A = Node} [] + i ≡ i = omega arith in subst (λ k. IsBelow k (get_or es i d) × (tree_at (with_trees [] es) k ≡ tree_of (with_trees [] es) (get_or es i d))) e (with_trees-at [] es i d o l)

pub ordered-snoc : (n : ℕ) (es : List Entry) (e : Entry) → AreOrdered n es → IsBelow (n + length es) e → AreOrdered n (es ++ e ∷ [])
ordered-snoc n [] e o b = let same : n + 0 ≡ n = omega arith in (subst (λ k. IsBelow k e) same b, tt)
ordered-snoc n (x ∷ es) e o b =
    let shift : n + length (x ∷ es) ≡ n + 1 + length es = omega arith in
    (o.0, ordered-snoc (n + 1) es e o.1 (subst (λ k. IsBelow k e) shift b))

pub entries_long : (es : List Entry) (trees : List Node) → trees_of es ≡ trees → length es ≡ length trees
entries_long es trees view = sym (length-trees es) ∙ ap length view

fit-snoc : (agents atoms : ℕ) (trees : List Node) (f : Node) → AreFit agents atoms trees → IsTrue (fits_in agents atoms f) → AreFit agents atoms (trees ++ f ∷ [])
fit-snoc agents atoms [] f a h = (h, tt)
fit-snoc agents atoms (x ∷ xs) f a h = (a.0, fit-snoc agents atoms xs f a.1 h)

-- an entry that is put at the end
module _ (es : List Entry) (e : Entry) (old : List Node) (view : trees_of es ≡ old) where
  pub more_trees : trees_of (es ++ e ∷ []) ≡ old ++ tree_of old e ∷ []
  more_trees = trees-snoc es e ∙ ap (λ ts. ts ++ tree_of ts e ∷ []) view

  pub more_ordered : AreOrdered 0 es → IsBelow (length old) e → AreOrdered 0 (es ++ e ∷ [])
  more_ordered o b = let same : length old ≡ 0 + length es = omega (arith, entries_long es old view) in ordered-snoc 0 es e o (subst (λ n. IsBelow n e) same b)

  pub last_tree : (n : ℕ) → n ≡ length old → tree_at (trees_of (es ++ e ∷ [])) n ≡ tree_of old e
  last_tree n at = ap (λ ts. tree_at ts n) more_trees ∙ ap (tree_at (old ++ tree_of old e ∷ [])) at ∙ get_or-last old (tree_of old e) True

  pub more_kept : KeepsTrees old (trees_of (es ++ e ∷ []))
  more_kept = (tree_of old e ∷ [], more_trees)

  pub more_fit : StayFit old (tree_of old e) (trees_of (es ++ e ∷ []))
  more_fit agents atoms a h = subst (AreFit agents atoms) (sym more_trees) (fit-snoc agents atoms old (tree_of old e) a h)

  pub more_long : length (trees_of (es ++ e ∷ [])) ≡ length old + 1
  more_long = ap length more_trees ∙ length-snoc old (tree_of old e) ∙ omega arith

pub count-Not : (f : Node) → node_count (Not f) ≡ node_count f + 1
count-Not f = ap node_count (sym (rolls-Not f)) ∙ fold-roll-Node ℕ count_step (Node-F.Not f)

pub count-Knows : (a : AgentId) (f : Node) → node_count (Knows a f) ≡ node_count f + 1
count-Knows a f = ap node_count (sym (rolls-Knows a f)) ∙ fold-roll-Node ℕ count_step (Node-F.Knows a f)

pub count-Common : (g : List Bool) (f : Node) → node_count (Common g f) ≡ node_count f + 1
count-Common g f = ap node_count (sym (rolls-Common g f)) ∙ fold-roll-Node ℕ count_step (Node-F.Common g f)

pub count-parts : (fs : List Node) → (node_count (And fs) ≡ sum_by node_count fs + 1) × (node_count (Or fs) ≡ sum_by node_count fs + 1)
count-parts fs = (count-And fs ∙ ap (λ n. n + 1) (sum-map node_count fs), count-Or fs ∙ ap (λ n. n + 1) (sum-map node_count fs))

-- how far the parts of a node are numbered: those before place i
pub record IsNumbering (old : List Node) (fs : List Node) (i : ℕ) (now : List Node) (ns : List ℕ) : Type 0 where
  pub numbers : AreNumbersOf now (take i fs) ns
  pub kept : KeepsTrees old now
  pub fit : AllStayFit old (take i fs) now
  pub few : length now ≤ length old + sum_by node_count (take i fs)

pub numbering_none : (old fs : List Node) → IsNumbering old fs 0 old []
numbering_none old fs = record {
  numbers = record { below = tt; each = refl };
  kept = kept_itself old;
  fit = λ n m a h. a;
  few = omega arith;
}

all-snoc : (ns : List ℕ) (n k : ℕ) → AllByRecursion (λ m. m < k) ns → n < k → AllByRecursion (λ m. m < k) (ns ++ n ∷ [])
all-snoc [] n k b l = (l, tt)
all-snoc (m ∷ ns) n k b l = (b.0, all-snoc ns n k b.1 l)

all-more : (ns : List ℕ) (j k : ℕ) → j ≤ k → AllByRecursion (λ m. m < j) ns → AllByRecursion (λ m. m < k) ns
all-more [] j k l b = tt
all-more (m ∷ ns) j k l b = (omega (arith, l, b.0), all-more ns j k l b.1)

kept_long : (old new : List Node) → KeepsTrees old new → length old ≤ length new
kept_long old new k = omega (arith, ap length k.1, length-append old k.0)
  where
    length-append : (xs ys : List Node) → length (xs ++ ys) ≡ length xs + length ys
    length-append [] ys = omega arith
    length-append (x ∷ xs) ys = let e = length-append xs ys in omega arith

module _ (old fs : List Node) (i : ℕ) (d : Node) (now : List Node) (ns : List ℕ) (l : i < length fs) (t : IsNumbering old fs i now ns) where
  pub numbering_room : length now + node_count (get_or fs i d) ≤ length old + sum_by node_count fs
  numbering_room = omega (arith, t.few, sum_by_more_le node_count fs i d l)

  both_fit : (agents atoms : ℕ) → IsTrue (list_all (fits_in agents atoms) (take (i + 1) fs)) → IsTrue (list_all (fits_in agents atoms) (take i fs)) × IsTrue (fits_in agents atoms (get_or fs i d))
  both_fit agents atoms h =
      let p = fits_in agents atoms in
      let x = get_or fs i d in
      let parts = and_parts (list_all p (take i fs)) (list_all p (x ∷ [])) (sym (ap (list_all p) (take_more fs i d l) ∙ list_all-append p (take i fs) (x ∷ [])) ∙ h) in
      (parts.0, (and_parts (p x) true parts.1).0)

  -- one part more, by way of the trees of its own parts
  pub numbering_more : (mid new : List Node) (n : ℕ) → KeepsTrees now mid → KeepsTrees mid new → length new ≤ length now + node_count (get_or fs i d) →
      n < length new → tree_at new n ≡ get_or fs i d → StayFit now (get_or fs i d) mid → StayFit mid (get_or fs i d) new → IsNumbering old fs (i + 1) new (ns ++ n ∷ [])
  numbering_more mid new n p q few b tree u v =
      let kept = kept_after now mid new p q in
      record {
        numbers = record {
          below = all-snoc ns n (length new) (all-more ns (length now) (length new) (kept_long now new kept) t.numbers.below) b;
          each = map-append (tree_at new) ns (n ∷ [])
              ∙ ap₂ (λ xs x. xs ++ x ∷ []) (kept_map now new kept ns t.numbers.below ∙ t.numbers.each) tree
              ∙ sym (take_more fs i d l);
        };
        kept = kept_after old now new t.kept kept;
        fit = λ agents atoms a h.
            let parts = both_fit agents atoms h in
            v agents atoms (u agents atoms (t.fit agents atoms a parts.0) parts.1) parts.1;
        few = omega (arith, t.few, few, sum_by_more node_count fs i d l);
      }

same_value : (x y : Bool) → IsTrue (beq x y) → x ≡ y
same_value true true h = refl
same_value true false h = absurd (cc h)
same_value false true h = absurd (cc h)
same_value false false h = refl

same_values : (xs ys : List Bool) → IsTrue (pointwise beq xs ys) → xs ≡ ys
same_values [] [] h = refl
same_values [] (y ∷ ys) h = absurd (cc h)
same_values (x ∷ xs) [] h = absurd (cc h)
same_values (x ∷ xs) (y ∷ ys) h =
    let parts = and_parts (beq x y) (pointwise beq xs ys) h in
    ap₂ ◌∷◌ (same_value x y parts.0) (same_values xs ys parts.1)

pub same_common : (g h : List Bool) (m n : ℕ) → IsTrue (pointwise beq g h) → IsTrue (m == n) → Entry.Common g m ≡ Entry.Common h n
same_common g h m n p q = ap₂ Entry.Common (same_values g h p) (equal_from_test m n q)

pub stay_after : (old mid new : List Node) (f : Node) → StayFit old f mid → StayFit mid f new → StayFit old f new
stay_after old mid new f u v agents atoms a h = v agents atoms (u agents atoms a h) h

-- a formula fits only where its parts do
module _ (old new : List Node) where
  pub stay-Not : (f : Node) → StayFit old f new → StayFit old (Not f) new
  stay-Not f u agents atoms a h = u agents atoms a (sym (fits_in-Not agents atoms f) ∙ h)

  pub stay-And : (fs : List Node) → AllStayFit old fs new → StayFit old (And fs) new
  stay-And fs u agents atoms a h = u agents atoms a (sym (fits_in-And agents atoms fs) ∙ h)

  pub stay-Or : (fs : List Node) → AllStayFit old fs new → StayFit old (Or fs) new
  stay-Or fs u agents atoms a h = u agents atoms a (sym (fits_in-Or agents atoms fs) ∙ h)

  pub stay-Knows : (a : AgentId) (f : Node) → StayFit old f new → StayFit old (Knows a f) new
  stay-Knows a f u agents atoms b h = u agents atoms b (and_parts (nat_lt a.n agents) (fits_in agents atoms f) (sym (fits_in-Knows agents atoms a f) ∙ h)).1

  pub stay-Common : (g : List Bool) (f : Node) → StayFit old f new → StayFit old (Common g f) new
  stay-Common g f u agents atoms b h = u agents atoms b (and_parts (is_nobody (drop agents g)) (fits_in agents atoms f) (sym (fits_in-Common agents atoms g f) ∙ h)).1

-- all parts were numbered
pub numbering_all : (old fs now : List Node) (i : ℕ) (ns : List ℕ) → i ≡ length fs → IsNumbering old fs i now ns → AllStayFit old fs now
numbering_all old fs now i ns e t agents atoms a h = t.fit agents atoms a (ap (λ xs. list_all (fits_in agents atoms) xs) (take_all i fs (omega (arith, e))) ∙ h)
