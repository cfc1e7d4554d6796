-- The greatest numbers of the formulas of an event, and its refusal by them.
use Rattle.std.proofs.Common.{◌≡◌, ℕ, ◌+◌, ◌<◌, min, max, ◌||◌, nat_lt, if◌then◌else◌, List, [], ◌∷◌, ◌++◌, map, take, length, get_or, Some, None, refl, sym, ◌∙◌, ap, ap₂, arith}
use Rattle.std.specs.List.{list_any}
use Rattle.std.proofs.lemmas.List.{take_more}
use Rattle.ep_logic.specs.declared.formula.TheConstants.{MOST_DEPTH, MOST_NODES}
use Rattle.ep_logic.specs.declared.formula.Node.{Node}
use Rattle.ep_logic.specs.declared.formula.Node.TheVariants.{And}
use Rattle.ep_logic.specs.Nodes.{node_count, depth_of, largest}
use Rattle.ep_logic.proofs.CallerLemmas.{get_or-table, length-table}
use Rattle.ep_logic.proofs.NodeLemmas.{count-And, depth-And}
use Rattle.ep_theory.specs.Events.{Event, EventModel}
use Rattle.ep_dynamic.specs.declared.sizes.Size.{Size}
use Rattle.ep_dynamic.specs.Sizes.{capped, size_of, reduced_size, reduced_sizes}
use Rattle.ep_dynamic.specs.Reduction.{reduce}
use Rattle.ep_dynamic.specs.ComposeAnswers.{formulas_of, event_refusal, greatest_size, size_refusal}
use Rattle.ep_dynamic.specs.declared.compose.ComposeError.TheVariants.{TooDeep, TooLarge}
use Rattle.ep_dynamic.proofs.SizeLemmas.{same_size}

pub size_both : (p q : Node) → capped (node_count p + (size_of q).nodes + 1) (max (depth_of p) (size_of q).depth + 1) ≡ size_of (And (p ∷ q ∷ []))
size_both p q =
    let c = count-And (p ∷ q ∷ []) in
    let d = depth-And (p ∷ q ∷ []) in
    same_size (node_count p + (size_of q).nodes + 1) (node_count (And (p ∷ q ∷ []))) (max (depth_of p) (size_of q).depth + 1) (depth_of (And (p ∷ q ∷ []))) (omega arith) (omega arith)

pub size_in_row : (A : EventModel) (f : Node) (e : ℕ) (row : List Size) → row ≡ reduced_sizes A f → e < length A.events → get_or row e (record { nodes = 0; depth = 0 }) ≡ size_of (reduce A e f)
size_in_row A f e row h l = ap (λ r. get_or r e (record { nodes = 0; depth = 0 })) h ∙ get_or-table (reduced_size A f) (length A.events) e (record { nodes = 0; depth = 0 }) l

pub row_long : (A : EventModel) (f : Node) (row : List Size) → row ≡ reduced_sizes A f → length row ≡ length A.events
row_long A f row h = ap length h ∙ length-table (reduced_size A f) (length A.events)

largest_more : (ns : List ℕ) (n : ℕ) → max (largest ns) n ≡ largest (ns ++ n ∷ [])
largest_more [] n = omega arith
largest_more (m ∷ ns) n = let h = largest_more ns n in omega arith

snoc : {X Y : Type 0} (f : X → Y) (xs : List X) (x : X) → map f (xs ++ x ∷ []) ≡ map f xs ++ f x ∷ []
snoc f [] x = refl
snoc f (y ∷ ys) x = ap (λ zs. f y ∷ zs) (snoc f ys x)

abbrev pub size : ℕ → ℕ → Size
size n d = record { nodes = n; depth = d }

same_pair : (n m d e : ℕ) → n ≡ m → d ≡ e → size n d ≡ size m e
same_pair n m d e p q = λ i. record { nodes = p i; depth = q i }

pub greatest_one : (f : Node) → size_of f ≡ greatest_size (f ∷ [])
greatest_one f = same_pair (size_of f).nodes (largest ((size_of f).nodes ∷ [])) (size_of f).depth (largest ((size_of f).depth ∷ [])) (omega arith) (omega arith)

pub greatest_more : (fs : List Node) (f : Node) (s t : Size) → s ≡ greatest_size fs → t ≡ size_of f → size (max s.nodes t.nodes) (max s.depth t.depth) ≡ greatest_size (fs ++ f ∷ [])
greatest_more fs f s t p q = same_pair (max s.nodes t.nodes) (greatest_size (fs ++ f ∷ [])).nodes (max s.depth t.depth) (greatest_size (fs ++ f ∷ [])).depth
    (ap₂ (λ n m. max n m) (ap (λ (s : Size). s.nodes) p) (ap (λ (s : Size). s.nodes) q) ∙ largest_more (map (λ f. (size_of f).nodes) fs) (size_of f).nodes ∙ ap largest (sym (snoc (λ f. (size_of f).nodes) fs f)))
    (ap₂ (λ n m. max n m) (ap (λ (s : Size). s.depth) p) (ap (λ (s : Size). s.depth) q) ∙ largest_more (map (λ f. (size_of f).depth) fs) (size_of f).depth ∙ ap largest (sym (snoc (λ f. (size_of f).depth) fs f)))

-- one value more behind a first formula
pub values_more : (first : Node) (value : ℕ → Node) (ps : List ℕ) (i : ℕ) → i < length ps → (first ∷ map value (take i ps)) ++ value (get_or ps i 0) ∷ [] ≡ first ∷ map value (take (i + 1) ps)
values_more first value ps i l = ap (λ fs. first ∷ fs) (sym (ap (map value) (take_more ps i 0 l) ∙ snoc value (take i ps) (get_or ps i 0)))

pub seconds : (value : ℕ → Node) (ps : List ℕ) → map value ps ≡ map (λ (set : ℕ × Node). set.1) (map {A = ℕ} {B = ℕ × Node} (λ p. (p, value p)) ps)
seconds value [] = refl
seconds value (p ∷ ps) = ap (λ fs. value p ∷ fs) (seconds value ps)

deeper : (d m : ℕ) → nat_lt 128 (max (min d 129) m) ≡ (nat_lt 128 d || nat_lt 128 m)
deeper d m = grind arith

larger : (n m : ℕ) → nat_lt 131072 (max (min n 131073) m) ≡ (nat_lt 131072 n || nat_lt 131072 m)
larger n m = grind arith

any_deep : (fs : List Node) → list_any (λ f. nat_lt MOST_DEPTH (depth_of f)) fs ≡ nat_lt MOST_DEPTH (largest (map (λ f. (size_of f).depth) fs))
any_deep [] = refl
any_deep (f ∷ fs) = ap (λ b. nat_lt MOST_DEPTH (depth_of f) || b) (any_deep fs) ∙ sym (deeper (depth_of f) (largest (map (λ f. (size_of f).depth) fs)))

any_large : (fs : List Node) → list_any (λ f. nat_lt MOST_NODES (node_count f)) fs ≡ nat_lt MOST_NODES (largest (map (λ f. (size_of f).nodes) fs))
any_large [] = refl
any_large (f ∷ fs) = ap (λ b. nat_lt MOST_NODES (node_count f) || b) (any_large fs) ∙ sym (larger (node_count f) (largest (map (λ f. (size_of f).nodes) fs)))

pub refusal_by_size : (k : ℕ) (event : Event) → size_refusal k (greatest_size (formulas_of event)) ≡ event_refusal k event
refusal_by_size k event = ap₂ (λ deep large. if deep then Some (TooDeep k) else (if large then Some (TooLarge k) else None)) (sym (any_deep (formulas_of event))) (sym (any_large (formulas_of event)))
