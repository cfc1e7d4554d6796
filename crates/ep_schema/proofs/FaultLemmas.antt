-- The first action that assigns to one atom twice, block by block.
use Rattle.std.proofs.Common.{◌≡◌, ℕ, zero, suc, ◌+◌, ◌<◌, Bool, true, false, cond, Option, Some, None, option_map, Result, Ok, Err, IfErr, List, [], ◌∷◌, ◌++◌, length, map, take, get_or, refl, ap, sym, ◌∙◌, subst, arith}
use Rattle.std.specs.List.{flat_map, find, zip}
use Rattle.std.specs.Prelude.{IsErrAnd}
use Rattle.std.proofs.lemmas.List.{length-map, length-append}
use Rattle.std.proofs.lemmas.Option.{none-some}
use Rattle.ep_theory.specs.Events.{EventModel}
use Rattle.ep_types.specs.Names.{Text}
use Rattle.ep_schema.specs.declared.fault.SchemaError.{SchemaError}
use Rattle.ep_schema.specs.declared.fault.SchemaError.TheVariants as fault
use Rattle.ep_schema.specs.Actions.{assigns_twice}
use Rattle.ep_base.specs.Refusals.{Reports}
use Rattle.ep_base.proofs.CallerLemmas.{reports_whole}
use Rattle.ep_schema.specs.Faults.{atom_twice}
use Rattle.ep_universe.proofs.CallerLemmas.{map_more}
use Rattle.ep_universe.proofs.CallerLemmas.{flat_more}

-- ---- a row that holds, or none

row-none : {X : Type 0} (t : Bool) (x : X) (rest : Option X) → cond t (Some x) rest ≡ None → (t ≡ false) × (rest ≡ None)
row-none true x rest h = absurd (none-some x (sym h))
row-none false x rest h = (refl, h)

row-some : {X : Type 0} (t : Bool) (x e : X) (rest : Option X) → cond t (Some x) None ≡ Some e → cond t (Some x) rest ≡ Some e
row-some true x e rest h = h
row-some false x e rest h = absurd (none-some e h)

-- ---- the first action, and the others

first_twice : (n : Text) (x : EventModel) (rest : Option (Text × EventModel)) (t : Bool)
    → option_map (λ y. fault.AtomTwice y.0) (cond t (Some (n, x)) rest) ≡ cond t (Some (fault.AtomTwice n)) (option_map (λ y. fault.AtomTwice y.0) rest)
first_twice n x rest true = refl
first_twice n x rest false = refl

pub twice-cons : (n : Text) (ns : List Text) (x : EventModel) (xs : List EventModel)
    → atom_twice (n ∷ ns) (x ∷ xs) ≡ cond (assigns_twice x) (Some (fault.AtomTwice n)) (atom_twice ns xs)
twice-cons n ns x xs = first_twice n x (find (λ y. assigns_twice y.1) (zip ns xs)) (assigns_twice x)

-- ---- two blocks

pub twice-append : (ns ms : List Text) (xs ys : List EventModel) → length ns ≡ length xs → atom_twice ns xs ≡ None → atom_twice (ns ++ ms) (xs ++ ys) ≡ atom_twice ms ys
twice-append [] ms [] ys l h = refl
twice-append [] ms (x ∷ xs) ys l h = absurd (omega arith)
twice-append (n ∷ ns) ms [] ys l h = absurd (omega arith)
twice-append (n ∷ ns) ms (x ∷ xs) ys l h =
    let r = row-none (assigns_twice x) (fault.AtomTwice n) (atom_twice ns xs) (sym (twice-cons n ns x xs) ∙ h) in
    twice-cons n (ns ++ ms) x (xs ++ ys)
    ∙ ap (λ t. cond t (Some (fault.AtomTwice n)) (atom_twice (ns ++ ms) (xs ++ ys))) r.0
    ∙ twice-append ns ms xs ys (omega arith) r.1

pub twice-left : (ns ms : List Text) (xs ys : List EventModel) (e : SchemaError) → length ns ≡ length xs → atom_twice ns xs ≡ Some e → atom_twice (ns ++ ms) (xs ++ ys) ≡ Some e
twice-left [] ms xs ys e l h = absurd (none-some e h)
twice-left (n ∷ ns) ms [] ys e l h = absurd (omega (arith, l))
twice-left (n ∷ ns) ms (x ∷ xs) ys e l h =
    twice-cons n (ns ++ ms) x (xs ++ ys) ∙ by (assigns_twice x) (twice-left ns ms xs ys e (omega arith)) (sym (twice-cons n ns x xs) ∙ h)
  where
    by : (t : Bool) → (atom_twice ns xs ≡ Some e → atom_twice (ns ++ ms) (xs ++ ys) ≡ Some e) → cond t (Some (fault.AtomTwice n)) (atom_twice ns xs) ≡ Some e → cond t (Some (fault.AtomTwice n)) (atom_twice (ns ++ ms) (xs ++ ys)) ≡ Some e
    by true f k = k
    by false f k = f k

pub twice-both : (ns ms : List Text) (xs ys : List EventModel) → length ns ≡ length xs → atom_twice (ns ++ ms) (xs ++ ys) ≡ None → (atom_twice ns xs ≡ None) × (atom_twice ms ys ≡ None)
twice-both [] ms [] ys l h = (refl, h)
twice-both [] ms (x ∷ xs) ys l h = absurd (omega arith)
twice-both (n ∷ ns) ms [] ys l h = absurd (omega arith)
twice-both (n ∷ ns) ms (x ∷ xs) ys l h =
    let r = row-none (assigns_twice x) (fault.AtomTwice n) (atom_twice (ns ++ ms) (xs ++ ys)) (sym (twice-cons n (ns ++ ms) x (xs ++ ys)) ∙ h) in
    let s = twice-both ns ms xs ys (omega arith) r.1 in
    (twice-cons n ns x xs ∙ ap (λ t. cond t (Some (fault.AtomTwice n)) (atom_twice ns xs)) r.0 ∙ s.0, s.1)

-- ---- one action more

module _ {X : Type 0} (name : X → Text) (act : X → EventModel) where
  as_many : (xs : List X) → length (map name xs) ≡ length (map act xs)
  as_many xs = length-map xs name ∙ sym (length-map xs act)

  pub none_more : (xs : List X) (i : ℕ) (x : X) → i < length xs → x ≡ get_or xs i x → atom_twice (map name (take i xs)) (map act (take i xs)) ≡ None → atom_twice (name x ∷ []) (act x ∷ []) ≡ None →
      atom_twice (map name (take (i + 1) xs)) (map act (take (i + 1) xs)) ≡ None
  none_more xs i x l here h k =
      (λ j. atom_twice (map_more name xs i x l here j) (map_more act xs i x l here j))
      ∙ twice-append (map name (take i xs)) (name x ∷ []) (map act (take i xs)) (act x ∷ []) (as_many (take i xs)) h ∙ k

  pub some_here : (xs : List X) (i : ℕ) (x : X) (e : SchemaError) → i < length xs → x ≡ get_or xs i x → atom_twice (map name (take i xs)) (map act (take i xs)) ≡ None → atom_twice (name x ∷ []) (act x ∷ []) ≡ Some e →
      atom_twice (map name xs) (map act xs) ≡ Some e
  some_here [] i x e l here h k = absurd (omega arith)
  some_here (y ∷ ys) zero x e l here h k =
      twice-cons (name y) (map name ys) (act y) (map act ys)
      ∙ row-some (assigns_twice (act y)) (fault.AtomTwice (name y)) e (atom_twice (map name ys) (map act ys))
      (sym (twice-cons (name y) [] (act y) []) ∙ subst (λ z. atom_twice (name z ∷ []) (act z ∷ []) ≡ Some e) here k)
  some_here (y ∷ ys) (suc i) x e l here h k =
      let r = row-none (assigns_twice (act y)) (fault.AtomTwice (name y)) (atom_twice (map name (take i ys)) (map act (take i ys)))
      (sym (twice-cons (name y) (map name (take i ys)) (act y) (map act (take i ys))) ∙ h) in
      twice-cons (name y) (map name ys) (act y) (map act ys)
      ∙ ap (λ t. cond t (Some (fault.AtomTwice (name y))) (atom_twice (map name ys) (map act ys))) r.0
      ∙ some_here ys i x e (omega arith) here r.1 k

-- ---- one block more

module _ {X : Type 0} (names : X → List Text) (acts : X → List EventModel) (even : (x : X) → length (names x) ≡ length (acts x)) where
  all_even : (xs : List X) → length (flat_map names xs) ≡ length (flat_map acts xs)
  all_even [] = refl
  all_even (x ∷ xs) = omega (arith, length-append (names x) (flat_map names xs), length-append (acts x) (flat_map acts xs), even x, all_even xs)

  pub none_block : (xs : List X) (i : ℕ) (x : X) → i < length xs → x ≡ get_or xs i x → atom_twice (flat_map names (take i xs)) (flat_map acts (take i xs)) ≡ None → atom_twice (names x) (acts x) ≡ None →
      atom_twice (flat_map names (take (i + 1) xs)) (flat_map acts (take (i + 1) xs)) ≡ None
  none_block xs i x l here h k =
      (λ j. atom_twice (flat_more names xs i x l here j) (flat_more acts xs i x l here j))
      ∙ twice-append (flat_map names (take i xs)) (names x) (flat_map acts (take i xs)) (acts x) (all_even (take i xs)) h ∙ k

  pub some_block : (xs : List X) (i : ℕ) (x : X) (e : SchemaError) → i < length xs → x ≡ get_or xs i x → atom_twice (flat_map names (take i xs)) (flat_map acts (take i xs)) ≡ None → atom_twice (names x) (acts x) ≡ Some e →
      atom_twice (flat_map names xs) (flat_map acts xs) ≡ Some e
  some_block [] i x e l here h k = absurd (omega arith)
  some_block (y ∷ ys) zero x e l here h k =
      twice-left (names y) (flat_map names ys) (acts y) (flat_map acts ys) e (even y) (subst (λ z. atom_twice (names z) (acts z) ≡ Some e) here k)
  some_block (y ∷ ys) (suc i) x e l here h k =
      let r = twice-both (names y) (flat_map names (take i ys)) (acts y) (flat_map acts (take i ys)) (even y) h in
      twice-append (names y) (flat_map names ys) (acts y) (flat_map acts ys) (even y) r.0 ∙ some_block ys i x e (omega arith) here r.1 k

-- ---- a report of a part is one of the whole

pub reported : {T : Type 0} (r : Result T SchemaError) (part whole : Option SchemaError) (e : SchemaError) → IsErrAnd r (λ y. y ≡ e) → (part ≡ Some e → whole ≡ Some e) → Reports fault.OutOfMemory part e → IfErr r (Reports fault.OutOfMemory whole)
reported (Ok x) part whole e h f k = tt
reported (Err y) part whole e h f k = subst (Reports fault.OutOfMemory whole) (sym h) (reports_whole fault.OutOfMemory part whole e f k)
