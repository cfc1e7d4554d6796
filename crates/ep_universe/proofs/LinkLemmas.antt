-- Names in a table, and the items that name an agent.
use Rattle.std.proofs.Common.{◌≡◌, ◌≢◌, ℕ, suc, ◌+◌, ◌<◌, Bool, true, false, cond, Option, Some, None, unwrap_or, List, [], ◌∷◌, ◌++◌, length, map, take, drop, get_or, slice_get, position, refl, ap, sym, ◌∙◌, arith, add-one, All, nat_lt, IsTrue, ◌↔◌}
use Rattle.std.specs.Prelude.{IfSome, IfNone}
use Rattle.std.specs.List.{position_or_len}
use Rattle.std.specs.Cmp.Lexicographic.{bytes_decides}
use Rattle.std.proofs.Math.Seq.{drop-cons}
use Rattle.std.proofs.lemmas.Bool.Decides.{nat_tests}
use Rattle.std.proofs.lemmas.List.{length-map, length-take, get_or-map, get_or-take, map-append, take_more}
use Rattle.std.proofs.lemmas.List.Elements.{All-get_or, All-from_get_or}
use Rattle.std.proofs.lemmas.List.Sums.{position_or_len_is}
use Rattle.std.proofs.lemmas.Option.{slice_get_within, get_or_from_slice_get}
use Rattle.ep_binding.specs.Bindings.{IsApart}
use Rattle.ep_logic.specs.AgentSets.{Has}
use Rattle.ep_logic.specs.Rows.{value_at}
use Rattle.ep_theory.proofs.CallerLemmas.{member_has}
use Rattle.ep_tree.specs.declared.tree.LinkTree.{LinkTree}
use Rattle.ep_tree.specs.declared.tree.PairsTree.{PairsTree}
use Rattle.ep_types.specs.Names.{Text, is_text}
use Rattle.ep_types.specs.declared.scope.Declared.{Declared}
use Rattle.ep_universe.specs.Objects.{Binding, group_of}
use Rattle.ep_universe.specs.Links.{last_pairs}

-- ---- places

is_other : (x y : Text) → x ≢ y → is_text x y ≡ false
is_other x y d = by (is_text x y) (bytes_decides x y).0
  where
    by : (b : Bool) → (b ≡ true → x ≡ y) → b ≡ false
    by true h = absurd (d (h refl))
    by false h = refl

inside : (i n : ℕ) → i < n → nat_lt i n ≡ true
inside i n h = grind (arith, nat_tests)

outside : (n : ℕ) → nat_lt n n ≡ false
outside n = grind (arith, nat_tests)

placed : (p : Text → Bool) (names : List Text) (i : ℕ) → i < length names → position_or_len p names ≡ i → position p names ≡ Some i
placed p names i l e = ap (λ k. cond (nat_lt k (length names)) (Some k) None) e ∙ ap (λ b. cond b (Some i) None) (inside i (length names) l)

nowhere : (p : Text → Bool) (names : List Text) → position_or_len p names ≡ length names → position p names ≡ None
nowhere p names e = ap (λ k. cond (nat_lt k (length names)) (Some k) None) e ∙ ap (λ b. cond b (Some (length names)) None) (outside (length names))

-- where texts differ, the place of one is its first
pub place_found : (names : List Text) (x : Text) (i : ℕ) → IsApart names → slice_get names i ≡ Some x → position (is_text x) names ≡ Some i
place_found names x i apart h =
    let l : i < length names = slice_get_within names i x h in
    let here : get_or names i [] ≡ x = get_or_from_slice_get names i x [] h in
    placed (is_text x) names i l (position_or_len_is (is_text x) names i [] (omega (arith, l))
    (λ k m. is_other x (get_or names k []) (λ same. apart k i [] m l (sym same ∙ sym here)))
    (λ _. (bytes_decides x (get_or names i [])).1 (sym here)))

pub place_nowhere : (names : List Text) (x : Text) → All (λ known. known ≢ x) names → position (is_text x) names ≡ None
place_nowhere names x h =
    nowhere (is_text x) names (position_or_len_is (is_text x) names (length names) [] (omega arith)
    (λ k m. is_other x (get_or names k []) (λ same. All-get_or (λ known. known ≢ x) names k [] m h (sym same)))
    (λ m. absurd (omega (arith, m))))

pub same_place : (names : List Text) (x : Text) (o : Option ℕ) → IsApart names → IfSome o (λ i. slice_get names i ≡ Some x) → IfNone o (All (λ known. known ≢ x) names) → unwrap_or o 0 ≡ unwrap_or (position (is_text x) names) 0
same_place names x (Some i) apart h k = ap (λ o. unwrap_or o 0) (sym (place_found names x i apart h))
same_place names x None apart h k = ap (λ o. unwrap_or o 0) (sym (place_nowhere names x k))

-- ---- one name more

pub new_name : {X : Type 0} (name : X → Text) (xs : List X) (i : ℕ) (x : X) → IsApart (map name xs) → i < length xs → x ≡ get_or xs i x → All (λ known. known ≢ name x) (map name (take i xs))
new_name name xs i x apart l here =
    All-from_get_or (λ known. known ≢ name x) (map name (take i xs)) [] (λ k m. λ same.
    let short : k < i = omega (arith, m, length-map (take i xs) name, length-take i xs) in
    let one : get_or (map name (take i xs)) k [] ≡ get_or (map name xs) k [] =
    get_or-map name (take i xs) k x [] (omega (arith, m, length-map (take i xs) name)) ∙ ap name (get_or-take i xs k x short) ∙ sym (get_or-map name xs k x [] (omega (arith, short, l))) in
    let two : get_or (map name xs) i [] ≡ name x = get_or-map name xs i x [] l ∙ ap name (sym here) in
    apart k i [] short (omega (arith, l, length-map xs name)) (sym one ∙ same ∙ sym two))

-- ---- the last item with an agent

-- whether an agent is in a group
pub has_is_member : (b : Bool) (g : List Bool) (a : ℕ) → (IsTrue b ↔ Has g a) → b ≡ value_at g a
has_is_member true g a h = sym ((member_has g a).1 (h.0 refl))
has_is_member false g a h = unset (value_at g a) (λ t. h.1 ((member_has g a).0 t))
  where
    unset : (c : Bool) → (IsTrue c → IsTrue false) → false ≡ c
    unset true f = absurd (cc (f refl))
    unset false f = refl

pub last_more : (d : Declared) (b : Binding) (a : ℕ) (before : PairsTree) (ls : List LinkTree) (i : ℕ) (l : LinkTree) → i < length ls → l ≡ get_or ls i l →
    last_pairs d b a before (drop i ls) ≡ last_pairs d b a (cond (value_at (group_of d b l.group) a) l.pairs before) (drop (i + 1) ls)
last_more d b a before ls i l h here =
    ap (last_pairs d b a before) (drop-cons ls i l h)
    ∙ ap (λ (x : LinkTree). last_pairs d b a (cond (value_at (group_of d b x.group) a) x.pairs before) (drop (suc i) ls)) (sym here)
    ∙ ap (λ k. last_pairs d b a (cond (value_at (group_of d b l.group) a) l.pairs before) (drop k ls)) (sym (add-one i))

-- ---- one item more

pub more_mapped : {X Y Z : Type 0} (g : X → Z) (f : Y → Z) (made : List X) (ys : List Y) (i : ℕ) (y : Y) (x : X) → i < length ys → y ≡ get_or ys i y → map g made ≡ map f (take i ys) → g x ≡ f y →
    map g (made ++ x ∷ []) ≡ map f (take (i + 1) ys)
more_mapped g f made ys i y x l here h e =
    map-append g made (x ∷ [])
    ∙ (λ k. h k ++ (e ∙ ap f here) k ∷ [])
    ∙ sym (ap (map f) (take_more ys i y l) ∙ map-append f (take i ys) (get_or ys i y ∷ []))

pub map_more : {Y Z : Type 0} (f : Y → Z) (ys : List Y) (i : ℕ) (y : Y) → i < length ys → y ≡ get_or ys i y → map f (take (i + 1) ys) ≡ map f (take i ys) ++ f y ∷ []
map_more f ys i y l here = ap (map f) (take_more ys i y l) ∙ map-append f (take i ys) (get_or ys i y ∷ []) ∙ ap (λ z. map f (take i ys) ++ f z ∷ []) (sym here)
