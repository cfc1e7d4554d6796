-- In a task without a fault, what is below a type that is below another is below that one.
use Rattle.std.proofs.Common.{◌≡◌, ℕ, zero, suc, ◌+◌, Bool, true, false, cond, ◌||◌, not, List, [], ◌∷◌, ◌++◌, Option, Some, None, unwrap_or, length, map, codes, refl, ap, sym, ◌∙◌, subst, arith, append_assoc, append-nil}
use Rattle.std.proofs.lemmas.List.{length-append}
use Rattle.std.specs.Option.{option_map_or}
use Rattle.std.specs.Cmp.Lexicographic.{bytes_decides}
use Rattle.ep_tree.specs.declared.tree.Name.{Name}
use Rattle.ep_tree.specs.declared.tree.TypeTree.{TypeTree}
use Rattle.ep_tree.specs.declared.tree.ObjectTree.{ObjectTree}
use Rattle.ep_tree.specs.declared.tree.FluentTree.{FluentTree}
use Rattle.ep_tree.specs.declared.tree.TaskTree.{TaskTree}
use Rattle.ep_types.specs.Faults.{first_fault, first_row, table}
use Rattle.ep_types.specs.Names.{Text, Typings, declared, is_text, is_among, names_of, climbs, is_below}
use Rattle.ep_types.specs.Places.{both, at, NewName, UsedName}
use Rattle.ep_types.specs.Tasks.{HasNoFault, declarations, start, with_type, after_types, with_object, with_objects, after_objects, with_fluent, after_fluents, type_uses}
use Rattle.ep_types.specs.declared.scope.Declared.{Declared}
use Rattle.ep_universe.proofs.LookupLemmas.{by_bool, declared-behind, absent}
use Rattle.ep_universe.proofs.TypedLemmas.{both-none, located-none, row-none, types_fine, typed_by}

pub same_text : (x y : Text) → is_text x y ≡ true → x ≡ y
same_text x y h = (bytes_decides x y).0 h

-- ---- climbing

either : (b x y : Bool) → (x ≡ true → y ≡ true) → (b || x) ≡ true → (b || y) ≡ true
either true x y f h = refl
either false x y f h = f h

module _ (T : Typings) where
  at_parent : (a p c : Text) (m : ℕ) → declared a T ≡ Some p → climbs (suc m) T a c ≡ (is_text a c || climbs m T p c)
  at_parent a p c m e = ap (λ o. is_text a c || option_map_or (λ q. climbs m T q c) o false) e

  pub climbs_here : (a c : Text) (m : ℕ) → is_text a c ≡ true → climbs m T a c ≡ true
  climbs_here a c zero h = h
  climbs_here a c (suc m) h = ap (λ b. b || option_map_or (λ q. climbs m T q c) (declared a T) false) h

  on_more : (c : Text) (m : ℕ) → ((q : Text) → climbs m T q c ≡ true → climbs (suc m) T q c ≡ true) → (o : Option Text) → option_map_or (λ q. climbs m T q c) o false ≡ true → option_map_or (λ q. climbs (suc m) T q c) o false ≡ true
  on_more c m f None k = k
  on_more c m f (Some q) k = f q k

  pub climbs_more : (m : ℕ) (a c : Text) → climbs m T a c ≡ true → climbs (suc m) T a c ≡ true
  climbs_more zero a c h = climbs_here a c 1 h
  climbs_more (suc m) a c h =
      either (is_text a c) (option_map_or (λ q. climbs m T q c) (declared a T) false) (option_map_or (λ q. climbs (suc m) T q c) (declared a T) false)
      (on_more c m (λ q k. climbs_more m q c k) (declared a T)) h

  climbs_up : (j m : ℕ) (a c : Text) → climbs m T a c ≡ true → climbs (j + m) T a c ≡ true
  climbs_up zero m a c h = let e : 0 + m ≡ m = omega arith in ap (λ n. climbs n T a c) e ∙ h
  climbs_up (suc j) m a c h = let e : suc j + m ≡ suc (j + m) = omega arith in ap (λ n. climbs n T a c) e ∙ climbs_more (j + m) a c (climbs_up j m a c h)

  on_chain : (b c : Text) (n k : ℕ) → ((q : Text) → climbs n T q b ≡ true → climbs k T q c ≡ true) → (o : Option Text) → option_map_or (λ q. climbs n T q b) o false ≡ true → option_map_or (λ q. climbs k T q c) o false ≡ true
  on_chain b c n k f None l = l
  on_chain b c n k f (Some q) l = f q l

  or_true : (y : Bool) → (y || true) ≡ true
  or_true true = refl
  or_true false = refl

  chain : (n m : ℕ) (a b c : Text) → climbs n T a b ≡ true → climbs m T b c ≡ true → climbs (n + m) T a c ≡ true
  chain zero m a b c h k = climbs_up 0 m a c (ap (λ x. climbs m T x c) (same_text a b h) ∙ k)
  chain (suc n) m a b c h k =
      by_bool (is_text a b)
      (λ e. climbs_up (suc n) m a c (ap (λ x. climbs m T x c) (same_text a b e) ∙ k))
      (λ e.
      let more : suc n + m ≡ suc (n + m) = omega arith in
      let rest : option_map_or (λ q. climbs n T q b) (declared a T) false ≡ true = sym (ap (λ y. y || option_map_or (λ q. climbs n T q b) (declared a T) false) e) ∙ h in
      ap (λ i. climbs i T a c) more
      ∙ either (is_text a c) true (option_map_or (λ q. climbs (n + m) T q c) (declared a T) false) (λ l. on_chain b c n (n + m) (λ q i. chain n m q b c i k) (declared a T) rest) (or_true (is_text a c)))

-- ---- so many steps at most to the first type, which is its own parent

data Deep (T : Typings) : Text → ℕ → Type 0 where
  root : {a : Text} {k : ℕ} → declared a T ≡ Some a → Deep T a k
  under : {a p : Text} {k : ℕ} → declared a T ≡ Some p → Deep T p k → Deep T a (suc k)

module _ (T : Typings) where
  deeper : (a : Text) (k : ℕ) → Deep T a k → Deep T a (suc k)
  deeper a k (root e) = root e
  deeper a (suc k) (under {p = p} e h) = under e (deeper p k h)

  stays : (a c : Text) (m : ℕ) → declared a T ≡ Some a → climbs m T a c ≡ true → is_text a c ≡ true
  stays a c zero e h = h
  stays a c (suc m) e h =
      by_bool (is_text a c) (λ k. k) (λ k. stays a c m e (sym (ap (λ y. y || climbs m T a c) k) ∙ sym (at_parent T a a c m e) ∙ h))

  -- a climb takes no more steps
  cut : (a c : Text) (k m : ℕ) → Deep T a k → climbs m T a c ≡ true → climbs k T a c ≡ true
  cut a c k m (root e) h = climbs_here T a c k (stays a c m e h)
  cut a c (suc k) zero (under e d) h = climbs_here T a c (suc k) h
  cut a c (suc k) (suc m) (under {p = p} e d) h =
      at_parent T a p c k e ∙ either (is_text a c) (climbs m T p c) (climbs k T p c) (λ l. cut p c k m d l) (sym (at_parent T a p c m e) ∙ h)

  unknown : (a c : Text) (m : ℕ) → declared a T ≡ None → climbs m T a c ≡ true → is_text a c ≡ true
  unknown a c zero e h = h
  unknown a c (suc m) e h = or_false (is_text a c) (sym (ap (λ o. is_text a c || option_map_or (λ q. climbs m T q c) o false) e) ∙ h)
    where
      or_false : (y : Bool) → (y || false) ≡ true → y ≡ true
      or_false true l = refl
      or_false false l = l

  below_by : ((a p : Text) → declared a T ≡ Some p → Deep T a (length T)) → (a b c : Text) → is_below T a b ≡ true → is_below T b c ≡ true → is_below T a c ≡ true
  below_by deep a b c h k = by (declared a T) refl
    where
      long : climbs (length T + length T) T a c ≡ true
      long = chain T (length T) (length T) a b c h k

      by : (o : Option Text) → declared a T ≡ o → is_below T a c ≡ true
      by None e = climbs_here T a c (length T) (unknown a c (length T + length T) e long)
      by (Some p) e = cut a c (length T) (length T + length T) (deep a p e) long

-- ---- the types of a task

Grown : Typings → Typings → Type 0
Grown bs [] = Unit {0}
Grown bs (r ∷ rs) = (is_among r.1 (names_of bs) ≡ true) × Grown (bs ++ r ∷ []) rs

among_last : (x : Text) (bs : Typings) (r : Text × Text) → is_among x (names_of (bs ++ r ∷ [])) ≡ (is_among x (names_of bs) || is_text x r.0)
among_last x [] r = or_false (is_text x r.0)
  where
    or_false : (b : Bool) → (b || false) ≡ b
    or_false true = refl
    or_false false = refl
among_last x (b ∷ bs) r = ap (λ z. is_text x b.0 || z) (among_last x bs r) ∙ assoc (is_text x b.0) (is_among x (names_of bs)) (is_text x r.0)
  where
    assoc : (a b c : Bool) → (a || (b || c)) ≡ ((a || b) || c)
    assoc true b c = refl
    assoc false b c = refl

deep_all : (T bs rs : Typings) → bs ++ rs ≡ T → Grown bs rs → ((x : Text) → is_among x (names_of bs) ≡ true → Deep T x (length bs)) → (x : Text) → is_among x (names_of T) ≡ true → Deep T x (length T)
unfolding Grown
deep_all T bs [] e g h = λ x k.
    let same : bs ≡ T = sym (append-nil bs) ∙ e in
    subst (λ n. Deep T x n) (ap length same) (h x (ap (λ z. is_among x (names_of z)) same ∙ k))
deep_all T bs (r ∷ rs) e g h =
    deep_all T (bs ++ r ∷ []) rs (append_assoc bs (r ∷ []) rs ∙ e) g.1 (λ x k. by x (is_among x (names_of bs)) refl k)
  where
    long : length (bs ++ r ∷ []) ≡ suc (length bs)
    long = let l = length-append bs (r ∷ []) in omega (arith, l)

    by : (x : Text) (b : Bool) → is_among x (names_of bs) ≡ b → is_among x (names_of (bs ++ r ∷ [])) ≡ true → Deep T x (length (bs ++ r ∷ []))
    by x true l k = subst (λ n. Deep T x n) (sym long) (deeper T x (length bs) (h x l))
    by x false l k =
        let here : is_text x r.0 ≡ true = sym (ap (λ y. y || is_text x r.0) l) ∙ sym (among_last x bs r) ∙ k in
        let is : declared x T ≡ Some r.1 = ap (declared x) (sym e) ∙ declared-behind x bs (r ∷ rs) (absent x bs l) ∙ ap (λ y. cond y (Some r.1) (declared x rs)) here in
        subst (λ n. Deep T x n) (sym long) (under is (h r.1 g.0))

entries : List TypeTree → Typings
entries es = map (λ e. (e.name.text, e.parent.text)) es

types_added : (d : Declared) (es : List TypeTree) → (after_types d es).types ≡ d.types ++ entries es
unfolding entries
types_added d [] = sym (append-nil d.types)
types_added d (e ∷ es) = types_added (with_type d e) es ∙ append_assoc d.types ((e.name.text, e.parent.text) ∷ []) (entries es)

not_false : (b : Bool) → not b ≡ false → b ≡ true
not_false true h = refl
not_false false h = cc

parents_known : (d : Declared) (es : List TypeTree) → first_fault (type_uses d es) ≡ None → Grown d.types (entries es)
unfolding Grown entries
parents_known d [] h = tt
parents_known d (e ∷ es) h =
    let here = both-none (at e.name.token (NewName e.name.text (names_of d.types))) (both (at e.parent.token (UsedName e.parent.text (names_of d.types))) (type_uses (with_type d e) es)) h in
    let parent = both-none (at e.parent.token (UsedName e.parent.text (names_of d.types))) (type_uses (with_type d e) es) here.1 in
    let row = row-none (not (is_among e.parent.text (names_of d.types))) _ _ (located-none e.parent.token (first_row (table (UsedName e.parent.text (names_of d.types)))) parent.0) in
    (not_false (is_among e.parent.text (names_of d.types)) row.0, parents_known (with_type d e) es parent.1)

kept_objects : (d : Declared) (kind : Text) (xs : List Name) → (with_objects d kind xs).types ≡ d.types
kept_objects d kind [] = refl
kept_objects d kind (x ∷ xs) = kept_objects (with_object d kind x) kind xs

kept_by_objects : (d : Declared) (es : List ObjectTree) → (after_objects d es).types ≡ d.types
kept_by_objects d [] = refl
kept_by_objects d (e ∷ es) = kept_by_objects (with_objects d e.kind.text e.names) es ∙ kept_objects d e.kind.text e.names

kept_by_fluents : (d : Declared) (es : List FluentTree) → (after_fluents d es).types ≡ d.types
kept_by_fluents d [] = refl
kept_by_fluents d (e ∷ es) = kept_by_fluents (with_fluent d e) es

types_of : (t : TaskTree) → (declarations t).types ≡ start.types ++ entries (unwrap_or t.types [])
types_of t =
    kept_by_fluents (after_objects (typed_by t) t.objects) t.fluents ∙ kept_by_objects (typed_by t) t.objects
    ∙ types_added start (unwrap_or t.types [])

among_some : (x p : Text) (es : Typings) → declared x es ≡ Some p → is_among x (names_of es) ≡ true
among_some x p es h = by (is_among x (names_of es)) refl
  where
    by : (b : Bool) → is_among x (names_of es) ≡ b → is_among x (names_of es) ≡ true
    by true k = k
    by false k = let no : Some p ≡ None = sym h ∙ absent x es k in cc

-- the two types that are there from the start
first_two : (rs : Typings) (x : Text) → is_among x (names_of start.types) ≡ true → Deep (start.types ++ rs) x 2
first_two rs x h = by (is_text x (codes "object")) refl
  where
    object_deep : Deep (start.types ++ rs) (codes "object") 1
    object_deep = root refl

    by : (b : Bool) → is_text x (codes "object") ≡ b → Deep (start.types ++ rs) x 2
    by true k = subst (λ z. Deep (start.types ++ rs) z 2) (sym (same_text x (codes "object") k)) (root refl)
    by false k =
        let here : is_text x (codes "agent") ≡ true = or_false (is_text x (codes "agent")) (sym (ap (λ b. b || (is_text x (codes "agent") || false)) k) ∙ h) in
        subst (λ z. Deep (start.types ++ rs) z 2) (sym (same_text x (codes "agent") here)) (under refl object_deep)
      where
        or_false : (y : Bool) → (y || false) ≡ true → y ≡ true
        or_false true l = refl
        or_false false l = l

pub below_trans : (t : TaskTree) → HasNoFault t → (a b c : Text) → is_below (declarations t).types a b ≡ true → is_below (declarations t).types b c ≡ true → is_below (declarations t).types a c ≡ true
below_trans t h =
    let rs = entries (unwrap_or t.types []) in
    let T = start.types ++ rs in
    let deep = deep_all T start.types rs refl (parents_known start (unwrap_or t.types []) (types_fine t h)) (first_two rs) in
    subst (λ (S : Typings). (a b c : Text) → is_below S a b ≡ true → is_below S b c ≡ true → is_below S a c ≡ true) (sym (types_of t))
    (below_by T (λ a p e. deep a (among_some a p T e)))
