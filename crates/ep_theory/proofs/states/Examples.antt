-- The definitions, computed on small states.
use Rattle.std.proofs.Common.{◌≡◌, [], ◌∷◌, true, false, refl, map, List, Bool, replicate, Some, arith, ap, Less}
use Rattle.ep_logic.specs.declared.formula.Node.{Node}
use Rattle.ep_logic.specs.declared.formula.Node.TheVariants.{True, Atom, Not, Or, Knows, Common}
use Rattle.ep_logic.specs.Numbers.{pairs_where}
use Rattle.ep_theory.specs.Kripke.{Kripke, IsState}
use Rattle.ep_theory.specs.Truth.{Truth}
use Rattle.ep_theory.specs.Tested.{is_true}
use Rattle.ep_theory.specs.Events.{EventModel}
use Rattle.ep_theory.specs.FourActions.{announce, private, sense, assign, plain}
use Rattle.ep_theory.specs.Product.{product_of, places, stuck_world}
use Rattle.ep_theory.specs.Contraction.{contraction}
use Rattle.ep_theory.specs.Kind.{kind, kind_cmp}
use Rattle.ep_theory.proofs.formulas.Decided.{is_true_decides}
use Rattle.ep_theory.proofs.formulas.TestedLemmas.{is_true_laws}

-- a coin lies with heads up; neither of the agents 0, ann, and 1, bob, knows it
abbrev pub coin : Kripke
coin = record {
  worlds = 2;
  agents = 2;
  atoms = 1;
  truth = (true ∷ []) ∷ (false ∷ []) ∷ [];
  links = ((0, 0) ∷ (0, 1) ∷ (1, 0) ∷ (1, 1) ∷ []) ∷ ((0, 0) ∷ (0, 1) ∷ (1, 0) ∷ (1, 1) ∷ []) ∷ [];
  designated = 0 ∷ [];
}

abbrev pub heads : Node
heads = Atom (record { n = 0 })

abbrev pub ann : List Bool
ann = true ∷ replicate 7 false

-- ann looks at the coin, and bob sees that she does
abbrev pub peek : EventModel
peek = sense 2 heads ann

abbrev pub coin_after_peek : Kripke
coin_after_peek = record {
  worlds = 2;
  agents = 2;
  atoms = 1;
  truth = (true ∷ []) ∷ (false ∷ []) ∷ [];
  links = ((0, 0) ∷ (1, 1) ∷ []) ∷ ((0, 0) ∷ (0, 1) ∷ (1, 0) ∷ (1, 1) ∷ []) ∷ [];
  designated = 0 ∷ [];
}

pub peeked : product_of coin peek ≡ coin_after_peek
unfolding places
peeked = simp is_true_laws refl

ann_knows : is_true coin_after_peek 0 (Knows (record { n = 0 }) heads) ≡ true
ann_knows = simp is_true_laws refl

coin_after_peek-is_state : IsState coin_after_peek
coin_after_peek-is_state = record {
  some_world = omega arith;
  truths = refl;
  each_truth = (refl, (refl, tt));
  relations = refl;
  rising = (((refl, tt), (tt, tt)), (((refl, (refl, (refl, tt))), ((refl, (refl, tt)), ((refl, tt), (tt, tt)))), tt));
  within = (
    ((omega arith, omega arith), ((omega arith, omega arith), tt)),
    (((omega arith, omega arith), ((omega arith, omega arith), ((omega arith, omega arith), ((omega arith, omega arith), tt)))), tt),
  );
  designated_rising = (tt, tt);
  designated_within = (omega arith, tt);
  some_designated = λ h. cc;
}

bob_does_not : is_true coin_after_peek 0 (Knows (record { n = 1 }) heads) ≡ false
bob_does_not = simp is_true_laws refl

pub truly_unknown : ¬ Truth coin_after_peek 0 (Knows (record { n = 1 }) heads)
truly_unknown t =
    let h = (is_true_decides coin_after_peek coin_after_peek-is_state 0 (omega arith) (Knows (record { n = 1 }) heads)).1 t in
    cc (h, bob_does_not)

-- that ann knows which side is up is common knowledge
pub in_common : is_true coin_after_peek 0 (Common (true ∷ true ∷ replicate 6 false) (Or (Knows (record { n = 0 }) heads ∷ Knows (record { n = 0 }) (Not heads) ∷ []))) ≡ true
in_common = simp is_true_laws refl

-- in the words of truth
pub truly_known : Truth coin_after_peek 0 (Knows (record { n = 0 }) heads)
truly_known = (is_true_decides coin_after_peek coin_after_peek-is_state 0 (omega arith) (Knows (record { n = 0 }) heads)).0 ann_knows

-- its contraction: the world with tails comes first
abbrev pub peek_contracted : Kripke
peek_contracted = record {
  worlds = 2;
  agents = 2;
  atoms = 1;
  truth = (false ∷ []) ∷ (true ∷ []) ∷ [];
  links = ((0, 0) ∷ (1, 1) ∷ []) ∷ ((0, 0) ∷ (0, 1) ∷ (1, 0) ∷ (1, 1) ∷ []) ∷ [];
  designated = 1 ∷ [];
}

pub peek-contraction : contraction coin_after_peek ≡ peek_contracted
peek-contraction = refl

-- two events that everyone takes for one another
abbrev pub twice : EventModel
twice = record {
  events = plain True ∷ plain True ∷ [];
  links = ((0, 0) ∷ (0, 1) ∷ (1, 0) ∷ (1, 1) ∷ []) ∷ ((0, 0) ∷ (0, 1) ∷ (1, 0) ∷ (1, 1) ∷ []) ∷ [];
  designated = 0 ∷ 1 ∷ [];
}

-- four worlds, two of them designated
abbrev pub coin_twice : Kripke
coin_twice = record {
  worlds = 4;
  agents = 2;
  atoms = 1;
  truth = (true ∷ []) ∷ (true ∷ []) ∷ (false ∷ []) ∷ (false ∷ []) ∷ [];
  links = pairs_where (λ i j. true) 4 ∷ pairs_where (λ i j. true) 4 ∷ [];
  designated = 0 ∷ 1 ∷ [];
}

twice-product : product_of coin twice ≡ coin_twice
unfolding places
twice-product = simp is_true_laws refl

abbrev pub coin_contracted : Kripke
coin_contracted = record {
  worlds = 2;
  agents = 2;
  atoms = 1;
  truth = (false ∷ []) ∷ (true ∷ []) ∷ [];
  links = pairs_where (λ i j. true) 2 ∷ pairs_where (λ i j. true) 2 ∷ [];
  designated = 1 ∷ [];
}

-- before and after, the world with tails comes first, and heads is designated
pub coin-contraction : (contraction coin ≡ coin_contracted) × (contraction (product_of coin twice) ≡ coin_contracted)
coin-contraction = (refl, ap contraction twice-product)

-- ann is told that heads is up, and bob takes it that nothing happened
abbrev pub told : Kripke
told = record {
  worlds = 3;
  agents = 2;
  atoms = 1;
  truth = (true ∷ []) ∷ (true ∷ []) ∷ (false ∷ []) ∷ [];
  links = ((0, 0) ∷ (1, 1) ∷ (1, 2) ∷ (2, 1) ∷ (2, 2) ∷ []) ∷ ((0, 1) ∷ (0, 2) ∷ (1, 1) ∷ (1, 2) ∷ (2, 1) ∷ (2, 2) ∷ []) ∷ [];
  designated = 0 ∷ [];
}

pub private-product : product_of coin (private 2 heads ann) ≡ told
unfolding places
private-product = simp is_true_laws refl

-- tails cannot be announced
pub announce-stuck : stuck_world coin (announce 2 (Not heads)) ≡ Some 0
announce-stuck = simp is_true_laws refl

-- the coin is turned: the assignment reads the old world
pub turned : (product_of coin (assign 2 True ((0, Not heads) ∷ []))).truth ≡ (false ∷ []) ∷ (true ∷ []) ∷ []
unfolding places
turned = simp is_true_laws refl

-- a chain of three worlds without atoms
abbrev pub chain : Kripke
chain = record {
  worlds = 3;
  agents = 1;
  atoms = 0;
  truth = [] ∷ [] ∷ [] ∷ [];
  links = ((0, 1) ∷ (1, 2) ∷ []) ∷ [];
  designated = 0 ∷ [];
}

-- its contraction: the end of the chain comes first
abbrev pub chain_contracted : Kripke
chain_contracted = record {
  worlds = 3;
  agents = 1;
  atoms = 0;
  truth = [] ∷ [] ∷ [] ∷ [];
  links = ((1, 0) ∷ (2, 1) ∷ []) ∷ [];
  designated = 2 ∷ [];
}

pub chain-contraction : contraction chain ≡ chain_contracted
chain-contraction = refl

-- at level 1 the end of the chain has a list without kinds, and the others the kind at level 0 of the next
pub chain-kinds : map (kind chain 1) (0 ∷ 1 ∷ 2 ∷ []) ≡
    record { older = []; rows = ([] ∷ []) ∷ [] } ∷ record { older = []; rows = ([] ∷ []) ∷ [] } ∷ record { older = []; rows = [] ∷ [] } ∷ []
chain-kinds = refl

-- so the end comes first, and the beginning last
pub chain-order : (kind_cmp 3 (kind chain 3 2) (kind chain 3 1) ≡ Less) × (kind_cmp 3 (kind chain 3 1) (kind chain 3 0) ≡ Less)
chain-order = (refl, refl)
