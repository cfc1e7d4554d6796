-- A plan file has one tree, whose calls stand at its tokens.
use Rattle.std.proofs.Common.{◌≡◌, ℕ, suc, ◌+◌, ◌≤◌, ◌<◌, List, [], ◌∷◌, ◌++◌, length, map, Option, All, refl, sym, ap, ◌∙◌, subst, arith, length-append}
use Rattle.std.specs.List.{flat_map}
use Rattle.std.proofs.lemmas.List.Elements.{All-nil, All-cons}
use Rattle.ep_lex.specs.Tokens.{Lexed, spellings}
use Rattle.ep_lex.proofs.CallerLemmas.{lexed-unique}
use Rattle.ep_tree.specs.declared.terminal.Terminal.TheVariants as the
use Rattle.ep_tree.specs.declared.tree.Name.{Name}
use Rattle.ep_tree.specs.declared.tree.CallTree.{CallTree}
use Rattle.ep_tree.specs.declared.tree.PlanTree.{PlanTree}
use Rattle.ep_tree.specs.Bare.{bare_name, bare_names, bare_call, bare_plan}
use Rattle.ep_tree.specs.Grammar.{plans, Reads}
use Rattle.ep_tree.specs.Marks.{Mark, fixed, named, PlacedFrom}
use Rattle.ep_syntax.specs.PlanReading.{plan}
use Rattle.ep_tree.specs.Spelling as spell
use Rattle.ep_tree.specs.Spelling.{behind}
use Rattle.ep_tree.proofs.CallerLemmas.{length-texts}
use Rattle.ep_reader.proofs.CallerLemmas.{only_same}
use Rattle.ep_syntax.proofs.CallerLemmas.{plan_outcome}
use Rattle.ep_reader.specs.Texts.{IsTextOf}

-- ---- places

placed_first : (place : ℕ) (xs ys : List Mark) → PlacedFrom place (xs ++ ys) → PlacedFrom place xs
placed_first place [] ys p = tt
placed_first place (x ∷ xs) ys p = (p.0, placed_first (place + 1) xs ys p.1)

placed_behind : (place : ℕ) (xs ys : List Mark) → PlacedFrom place (xs ++ ys) → PlacedFrom (place + length xs) ys
placed_behind place [] ys p = let h : place ≡ place + 0 = omega arith in subst (λ k. PlacedFrom k ys) h p
placed_behind place (x ∷ xs) ys p =
    let h : place + 1 + length xs ≡ place + suc (length xs) = omega arith in
    subst (λ k. PlacedFrom k ys) h (placed_behind (place + 1) xs ys p.1)

-- ---- trees with equal places that are equal but for token numbers

name_same : (n m : Name) (place : ℕ) → bare_name n ≡ bare_name m → n.token ≡ place → m.token ≡ place → n ≡ m
name_same n m place e p q =
    let t : n.token ≡ m.token = p ∙ sym q in
    let x : n.text ≡ m.text = ap (λ z. z.text) e in
    λ i. record { token = t i; text = x i }

cons_same : {A : Type 0} (x y : A) (xs ys : List A) → x ≡ y → xs ≡ ys → x ∷ xs ≡ y ∷ ys
cons_same x y xs ys e f = λ i. e i ∷ f i

abbrev one : Name → List Mark
one n = named n ∷ []

behind_same : (place : ℕ) (ns ms : List Name) → bare_names ns ≡ bare_names ms → PlacedFrom place (behind the.Comma (map one ns)) → PlacedFrom place (behind the.Comma (map one ms)) → ns ≡ ms
behind_same place [] [] e p q = refl
behind_same place [] (m ∷ ms) e p q = cc
behind_same place (n ∷ ns) [] e p q = cc
behind_same place (n ∷ ns) (m ∷ ms) e p q =
    let first : bare_name n ≡ bare_name m = cc in
    let rest : bare_names ns ≡ bare_names ms = cc in
    cons_same n m ns ms (name_same n m (place + 1) first p.1.0 q.1.0) (behind_same (place + 1 + 1) ns ms rest p.1.1 q.1.1)

arguments_same : (place : ℕ) (ns ms : List Name) → bare_names ns ≡ bare_names ms → PlacedFrom place (spell.arguments ns) → PlacedFrom place (spell.arguments ms) → ns ≡ ms
arguments_same place [] [] e p q = refl
arguments_same place [] (m ∷ ms) e p q = cc
arguments_same place (n ∷ ns) [] e p q = cc
arguments_same place (n ∷ ns) (m ∷ ms) e p q =
    let first : bare_name n ≡ bare_name m = cc in
    let rest : bare_names ns ≡ bare_names ms = cc in
    let close = fixed the.CloseParen ∷ [] in
    cons_same n m ns ms (name_same n m (place + 1) first p.1.0 q.1.0)
    (behind_same (place + 1 + 1) ns ms rest (placed_first (place + 1 + 1) (behind the.Comma (map one ns)) close p.1.1) (placed_first (place + 1 + 1) (behind the.Comma (map one ms)) close q.1.1))

call_same : (place : ℕ) (c d : CallTree) → bare_call c ≡ bare_call d → PlacedFrom place (spell.call c) → PlacedFrom place (spell.call d) → c ≡ d
call_same place c d e p q =
    let n = name_same c.name d.name place (ap (λ z. z.name) e) p.0 q.0 in
    let a = arguments_same (place + 1) c.args d.args (ap (λ z. z.args) e) p.1 q.1 in
    λ i. record { name = n i; args = a i }

calls_same : (place : ℕ) (cs ds : List CallTree) → map bare_call cs ≡ map bare_call ds → PlacedFrom place (flat_map spell.call cs) → PlacedFrom place (flat_map spell.call ds) → cs ≡ ds
calls_same place [] [] e p q = refl
calls_same place [] (d ∷ ds) e p q = cc
calls_same place (c ∷ cs) [] e p q = cc
calls_same place (c ∷ cs) (d ∷ ds) e p q =
    let first : bare_call c ≡ bare_call d = cc in
    let rest : map bare_call cs ≡ map bare_call ds = cc in
    let same = call_same place c d first (placed_first place (spell.call c) (flat_map spell.call cs) p) (placed_first place (spell.call d) (flat_map spell.call ds) q) in
    let behind_d = placed_behind place (spell.call d) (flat_map spell.call ds) q in
    cons_same c d cs ds same
    (calls_same (place + length (spell.call c)) cs ds rest (placed_behind place (spell.call c) (flat_map spell.call cs) p)
    (subst (λ z. PlacedFrom (place + length (spell.call z)) (flat_map spell.call ds)) (sym same) behind_d))

abbrev close : List Mark
close = fixed the.End ∷ []

-- where the calls begin
abbrev calls_at : Option ℕ → ℕ
calls_at cost = 4 + length (spell.cost cost) + 1 + 1

-- the calls of a plan and the end stand behind the first tokens
calls_behind : (p : PlanTree) → PlacedFrom 0 (spell.plan p) → PlacedFrom (calls_at p.cost) (flat_map spell.call p.calls ++ close)
calls_behind p x =
    (placed_behind 4 (spell.cost p.cost) (fixed the.Actions ∷ spell.count p.count ∷ (flat_map spell.call p.calls ++ close)) x.1.1.1.1).1.1

calls_here : (p : PlanTree) → PlacedFrom 0 (spell.plan p) → PlacedFrom (calls_at p.cost) (flat_map spell.call p.calls)
calls_here p x = placed_first (calls_at p.cost) (flat_map spell.call p.calls) close (calls_behind p x)

plan_same : (p q : PlanTree) → bare_plan p ≡ bare_plan q → PlacedFrom 0 (spell.plan p) → PlacedFrom 0 (spell.plan q) → p ≡ q
plan_same p q e x y =
    let t = name_same p.task q.task 3 (ap (λ z. z.task) e) x.1.1.1.0 y.1.1.1.0 in
    let k : p.cost ≡ q.cost = ap (λ z. z.cost) e in
    let n : p.count ≡ q.count = ap (λ z. z.count) e in
    let there = subst (λ z. PlacedFrom (calls_at z) (flat_map spell.call q.calls)) (sym k) (calls_here q y) in
    let cs = calls_same (calls_at p.cost) p.calls q.calls (ap (λ z. z.calls) e) (calls_here p x) there in
    λ i. record { task = t i; cost = k i; count = n i; calls = cs i }

pub tree_same : (ts : List (List ℕ)) (p q : PlanTree) → Reads plans ts p → Reads plans ts q → p ≡ q
tree_same ts p q x y = plan_same p q (sym (only_same plans ts plan (plan_outcome ts) p x.formed x.shallow x.spelled q y)) x.placed y.placed

-- ---- of a file

pub file_lexed : (bytes : List ℕ) (ts us : Lexed) (p q : PlanTree) → IsTextOf plans bytes ts p → IsTextOf plans bytes us q → ts ≡ us
file_lexed bytes ts us p q x y = lexed-unique bytes ts us x.lexed y.lexed

pub file_trees : (bytes : List ℕ) (ts us : Lexed) (p q : PlanTree) → IsTextOf plans bytes ts p → IsTextOf plans bytes us q → p ≡ q
file_trees bytes ts us p q x y =
    tree_same (spellings bytes us.tokens) p q (subst (λ z. Reads plans (spellings bytes z.tokens) p) (file_lexed bytes ts us p q x y) x.reads) y.reads

-- ---- the calls stand among the tokens

calls_placed : (place : ℕ) (cs : List CallTree) → PlacedFrom place (flat_map spell.call cs) → All (λ c. c.name.token < place + length (flat_map spell.call cs)) cs
calls_placed place [] p = All-nil (λ (c : CallTree). c.name.token < place + 0)
calls_placed place (c ∷ cs) p =
    let here = placed_first place (spell.call c) (flat_map spell.call cs) p in
    let long = length-append (spell.call c) (flat_map spell.call cs) in
    let same : place + length (spell.call c) + length (flat_map spell.call cs) ≡ place + length (flat_map spell.call (c ∷ cs)) = omega (arith, long) in
    All-cons (λ (x : CallTree). x.name.token < place + length (flat_map spell.call (c ∷ cs))) c cs
    (omega (arith, here.0, long))
    (subst (λ k. All (λ (x : CallTree). x.name.token < k) cs) same (calls_placed (place + length (spell.call c)) cs (placed_behind place (spell.call c) (flat_map spell.call cs) p)))

calls_few : (cs : List CallTree) → length cs ≤ length (flat_map spell.call cs)
calls_few [] = omega arith
calls_few (c ∷ cs) = omega (arith, calls_few cs, length-append (spell.call c) (flat_map spell.call cs))

pub record AreAmong (n : ℕ) (tree : PlanTree) : Type 0 where
  pub places : All (λ c. c.name.token < n) tree.calls
  pub few : length tree.calls ≤ n

plan_long : (tree : PlanTree) → calls_at tree.cost + length (flat_map spell.call tree.calls) ≤ length (spell.plan tree)
plan_long tree =
    let calls = flat_map spell.call tree.calls ++ close in
    let behind_cost = fixed the.Actions ∷ spell.count tree.count ∷ calls in
    omega (arith, length-append (flat_map spell.call tree.calls) close, length-append (spell.cost tree.cost) behind_cost)

pub calls_among : (ts : List (List ℕ)) (tree : PlanTree) → Reads plans ts tree → AreAmong (length ts) tree
calls_among ts tree r =
    let long : length (spell.plan tree) ≡ length ts = sym (length-texts (spell.plan tree)) ∙ ap length r.spelled in
    let whole = plan_long tree in
    let places = calls_placed (calls_at tree.cost) tree.calls (calls_here tree r.placed) in
    record {
      places = λ k d l. omega (arith, places k d l, whole, long);
      few = omega (arith, calls_few tree.calls, whole, long);
    }
