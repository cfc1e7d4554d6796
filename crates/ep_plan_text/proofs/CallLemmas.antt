-- The actions that calls name.
use Rattle.std.proofs.Common.{◌≡◌, ◌≢◌, ℕ, zero, suc, ◌+◌, ◌<◌, List, [], ◌∷◌, ◌++◌, length, take, drop, get_or, Some, All, refl, sym, ap, ◌∙◌, subst, arith, inl, inr}
use Rattle.std.specs.Prelude.{slice_get, AllPairs}
use Rattle.std.proofs.lemmas.Bool.{cases_order}
use Rattle.std.proofs.lemmas.List.{take-append-drop, drop_more, take_more}
use Rattle.std.proofs.lemmas.List.Elements.{All-nil, All-cons}
use Rattle.std.proofs.lemmas.Option.{get_or_from_slice_get}
use Rattle.ep_logic.specs.declared.ids.ActionId.{ActionId}
use Rattle.ep_tree.specs.declared.tree.CallTree.{CallTree}
use Rattle.ep_types.specs.Names.{Text}
use Rattle.ep_ground.specs.Task.{GroundTask}
use Rattle.ep_plan_text.specs.Calls.{name_of, NamesAction, NamesNone, NameActions, IsFirstUnknown}

-- ---- places of names

get_below : {X : Type 0} (xs : List X) (i : ℕ) (x : X) → slice_get xs i ≡ Some x → i < length xs
get_below [] i x e = absurd (cc)
get_below (y ∷ ys) zero x e = omega arith
get_below (y ∷ ys) (suc i) x e = let l = get_below ys i x e in omega (arith, l)

pub named_below : (g : GroundTask) (c : CallTree) (a : ActionId) → NamesAction g c a → a.n < length g.actions
named_below g c a h = get_below g.actions a.n (name_of c) h

none_there : (xs : List Text) (i : ℕ) (x : Text) → slice_get xs i ≡ Some x → All (λ known. known ≢ x) xs → ⊥
none_there xs i x e h = h i x (get_below xs i x e) (get_or_from_slice_get xs i x x e)

one_place : (xs : List Text) (i j : ℕ) (x : Text) → AllPairs (λ y z. y ≢ z) xs → slice_get xs i ≡ Some x → slice_get xs j ≡ Some x → i ≡ j
one_place xs i j x apart e f = elim (cases_order i j) [
  | inl same ↦ same
  | inr (inl below) ↦ absurd (apart i j x below (get_below xs j x f) (get_or_from_slice_get xs i x x e ∙ sym (get_or_from_slice_get xs j x x f)))
  | inr (inr above) ↦ absurd (apart j i x above (get_below xs i x e) (get_or_from_slice_get xs j x x f ∙ sym (get_or_from_slice_get xs i x x e)))
]

one_action : (g : GroundTask) (c : CallTree) (a b : ActionId) → AllPairs (λ y z. y ≢ z) g.actions → NamesAction g c a → NamesAction g c b → a ≡ b
one_action g c a b apart h k = let e = one_place g.actions a.n b.n (name_of c) apart h k in λ i. record { n = e i }

pub one_plan : (g : GroundTask) (cs : List CallTree) (p q : List ActionId) → AllPairs (λ y z. y ≢ z) g.actions → NameActions g cs p → NameActions g cs q → p ≡ q
one_plan g [] [] [] apart h k = refl
one_plan g [] [] (b ∷ q) apart h k = absurd k
one_plan g [] (a ∷ p) q apart h k = absurd h
one_plan g (c ∷ cs) [] q apart h k = absurd h
one_plan g (c ∷ cs) (a ∷ p) [] apart h k = absurd k
one_plan g (c ∷ cs) (a ∷ p) (b ∷ q) apart h k =
    let e = one_action g c a b apart h.0 k.0 in
    let f = one_plan g cs p q apart h.1 k.1 in
    λ i. e i ∷ f i

pub no_calls : (g : GroundTask) (p : List ActionId) → NameActions g [] p → p ≡ []
no_calls g [] h = refl
no_calls g (a ∷ p) h = absurd h

-- ---- one call more

pub named_push : (g : GroundTask) (cs : List CallTree) (p : List ActionId) (c : CallTree) (a : ActionId) → NameActions g cs p → NamesAction g c a → NameActions g (cs ++ c ∷ []) (p ++ a ∷ [])
named_push g [] [] c a h k = (k, tt)
named_push g [] (b ∷ p) c a h k = absurd h
named_push g (d ∷ cs) [] c a h k = absurd h
named_push g (d ∷ cs) (b ∷ p) c a h k = (h.0, named_push g cs p c a h.1 k)

pub named_more : (g : GroundTask) (cs : List CallTree) (p : List ActionId) (i : ℕ) (c : CallTree) (a : ActionId) → i < length cs → c ≡ get_or cs i c
    → NameActions g (take i cs) p → NamesAction g c a → NameActions g (take (i + 1) cs) (p ++ a ∷ [])
named_more g cs p i c a l here h k =
    subst (λ z. NameActions g z (p ++ a ∷ [])) (ap (λ z. take i cs ++ z ∷ []) here ∙ sym (take_more cs i c l)) (named_push g (take i cs) p c a h k)

-- ---- the first call that names none

pub first_unknown : (g : GroundTask) (cs : List CallTree) (p : List ActionId) (i : ℕ) (c : CallTree) → i < length cs → c ≡ get_or cs i c
    → NameActions g (take i cs) p → NamesNone g c → IsFirstUnknown g cs c
first_unknown g cs p i c l here h k = record {
  before = take i cs;
  behind = drop (i + 1) cs;
  calls_are = sym (take-append-drop i cs) ∙ ap (λ z. take i cs ++ z) (drop_more cs i c l ∙ ap (λ z. z ∷ drop (i + 1) cs) (sym here));
  actions = p;
  known = h;
  unknown = k;
}

not_both : (g : GroundTask) (c : CallTree) (a : ActionId) → NamesAction g c a → NamesNone g c → ⊥
not_both g c a h k = none_there g.actions a.n (name_of c) h k

first_same : (g : GroundTask) (xs ys : List CallTree) (c d : CallTree) (us vs : List CallTree) (p q : List ActionId) → xs ++ c ∷ us ≡ ys ++ d ∷ vs
    → NameActions g xs p → NamesNone g c → NameActions g ys q → NamesNone g d → c ≡ d
first_same g [] [] c d us vs p q e h k m n = cc
first_same g [] (y ∷ ys) c d us vs p [] e h k m n = absurd m
first_same g [] (y ∷ ys) c d us vs p (b ∷ q) e h k m n = let same : y ≡ c = cc in absurd (not_both g c b (subst (λ z. NamesAction g z b) same m.0) k)
first_same g (x ∷ xs) [] c d us vs [] q e h k m n = absurd h
first_same g (x ∷ xs) [] c d us vs (a ∷ p) q e h k m n = let same : x ≡ d = cc in absurd (not_both g d a (subst (λ z. NamesAction g z a) same h.0) n)
first_same g (x ∷ xs) (y ∷ ys) c d us vs [] q e h k m n = absurd h
first_same g (x ∷ xs) (y ∷ ys) c d us vs (a ∷ p) [] e h k m n = absurd m
first_same g (x ∷ xs) (y ∷ ys) c d us vs (a ∷ p) (b ∷ q) e h k m n = let f : xs ++ c ∷ us ≡ ys ++ d ∷ vs = cc in first_same g xs ys c d us vs p q f h.1 k m.1 n

pub one_unknown : (g : GroundTask) (cs : List CallTree) (c d : CallTree) → IsFirstUnknown g cs c → IsFirstUnknown g cs d → c ≡ d
one_unknown g cs c d x y = first_same g x.before y.before c d x.behind y.behind x.actions y.actions (sym x.calls_are ∙ y.calls_are) x.known x.unknown y.known y.unknown

-- where all calls name actions, none names none
all_named : (g : GroundTask) (xs : List CallTree) (c : CallTree) (us : List CallTree) (p : List ActionId) → NameActions g (xs ++ c ∷ us) p → NamesNone g c → ⊥
all_named g [] c us [] h k = h
all_named g [] c us (a ∷ p) h k = not_both g c a h.0 k
all_named g (x ∷ xs) c us [] h k = h
all_named g (x ∷ xs) c us (a ∷ p) h k = all_named g xs c us p h.1 k

pub known_or_not : (g : GroundTask) (cs : List CallTree) (p : List ActionId) (c : CallTree) → NameActions g cs p → IsFirstUnknown g cs c → ⊥
known_or_not g cs p c h x = all_named g x.before c x.behind p (subst (λ z. NameActions g z p) x.calls_are h) x.unknown

-- ---- of a plan

pub named_all : (g : GroundTask) (cs : List CallTree) (p : List ActionId) → NameActions g cs p → (length p ≡ length cs) × All (λ a. a.n < length g.actions) p
named_all g [] [] h = (refl, All-nil (λ (a : ActionId). a.n < length g.actions))
named_all g [] (a ∷ p) h = absurd h
named_all g (c ∷ cs) [] h = absurd h
named_all g (c ∷ cs) (a ∷ p) h =
    let r = named_all g cs p h.1 in
    (ap suc r.0, All-cons (λ (a : ActionId). a.n < length g.actions) a p (named_below g c a h.0) r.1)

-- the plan of calls is the only one, where names differ if there is a call
pub one_of : (g : GroundTask) (cs : List CallTree) (p : List ActionId) (i : ℕ) → i ≡ length cs → (0 < i → AllPairs (λ y z. y ≢ z) g.actions) → NameActions g cs p
    → (other : List ActionId) → NameActions g cs other → other ≡ p
one_of g [] p i e apart h other k = no_calls g other k ∙ sym (no_calls g p h)
one_of g (c ∷ cs) p i e apart h other k = one_plan g (c ∷ cs) other p (apart (omega (arith, e))) k h
