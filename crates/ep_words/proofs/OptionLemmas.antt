-- Words write at most one option, and options are read from the front.
use Rattle.std.proofs.Common.{rules, ◌≡◌, ℕ, zero, suc, ◌≤◌, List, [], ◌∷◌, Option, Some, None, MatchOption, arith, subst, sym, ap, ◌∙◌}
use Rattle.std.proofs.lemmas.Fmt.{decimal_injective}
use Rattle.ep_words.specs.declared.options.PlanOption.{PlanOption}
use Rattle.ep_words.specs.declared.options.PlanOption.TheVariants.{Depth, Cost, States, Worlds, Guide, First}
use Rattle.ep_words.specs.declared.options.Options.{Options}
use Rattle.ep_words.specs.Options.{Word, guide_word, option_words, IsInRange, IsNew, and_option, AreOptions, no_more, one_more}

second : {a b c d : Word} → a ∷ b ∷ [] ≡ c ∷ d ∷ [] → b ≡ d
second e = search (rules, e)

guide_one : (n m : ℕ) → n ≤ 2 → m ≤ 2 → guide_word n ≡ guide_word m → n ≡ m
guide_one zero zero here there e = λ _. zero
guide_one zero (suc zero) here there e = search (rules, e)
guide_one zero (suc (suc m)) here there e = search (rules, e)
guide_one (suc zero) zero here there e = search (rules, e)
guide_one (suc zero) (suc zero) here there e = λ _. suc zero
guide_one (suc zero) (suc (suc m)) here there e = search (rules, e)
guide_one (suc (suc n)) zero here there e = search (rules, e)
guide_one (suc (suc n)) (suc zero) here there e = search (rules, e)
guide_one (suc (suc n)) (suc (suc m)) here there e = omega (arith, here, there)

pub option_one : (o q : PlanOption) → IsInRange o → IsInRange q → option_words o ≡ option_words q → o ≡ q
option_one (Depth n) (Depth m) here there e = ap Depth (decimal_injective n m (omega (arith, here)) (omega (arith, there)) (second e))
option_one (Depth n) (Cost m) here there e = search (rules, e)
option_one (Depth n) (States m) here there e = search (rules, e)
option_one (Depth n) (Worlds m) here there e = search (rules, e)
option_one (Depth n) (Guide m) here there e = search (rules, e)
option_one (Depth n) First here there e = search (rules, e)
option_one (Cost n) (Depth m) here there e = search (rules, e)
option_one (Cost n) (Cost m) here there e = ap Cost (decimal_injective n m (omega (arith, here)) (omega (arith, there)) (second e))
option_one (Cost n) (States m) here there e = search (rules, e)
option_one (Cost n) (Worlds m) here there e = search (rules, e)
option_one (Cost n) (Guide m) here there e = search (rules, e)
option_one (Cost n) First here there e = search (rules, e)
option_one (States n) (Depth m) here there e = search (rules, e)
option_one (States n) (Cost m) here there e = search (rules, e)
option_one (States n) (States m) here there e = ap States (decimal_injective n m (omega (arith, here)) (omega (arith, there)) (second e))
option_one (States n) (Worlds m) here there e = search (rules, e)
option_one (States n) (Guide m) here there e = search (rules, e)
option_one (States n) First here there e = search (rules, e)
option_one (Worlds n) (Depth m) here there e = search (rules, e)
option_one (Worlds n) (Cost m) here there e = search (rules, e)
option_one (Worlds n) (States m) here there e = search (rules, e)
option_one (Worlds n) (Worlds m) here there e = ap Worlds (decimal_injective n m (omega (arith, here)) (omega (arith, there)) (second e))
option_one (Worlds n) (Guide m) here there e = search (rules, e)
option_one (Worlds n) First here there e = search (rules, e)
option_one (Guide n) (Depth m) here there e = search (rules, e)
option_one (Guide n) (Cost m) here there e = search (rules, e)
option_one (Guide n) (States m) here there e = search (rules, e)
option_one (Guide n) (Worlds m) here there e = search (rules, e)
option_one (Guide n) (Guide m) here there e = ap Guide (guide_one n m here there (second e))
option_one (Guide n) First here there e = search (rules, e)
option_one First (Depth m) here there e = search (rules, e)
option_one First (Cost m) here there e = search (rules, e)
option_one First (States m) here there e = search (rules, e)
option_one First (Worlds m) here there e = search (rules, e)
option_one First (Guide m) here there e = search (rules, e)
option_one First First here there e = λ _. First

options_behind : (name value : Word) (rest : List Word) (os all : Options) (o : PlanOption) → option_words o ≡ name ∷ value ∷ [] → IsInRange o
    → AreOptions (name ∷ value ∷ rest) os all → AreOptions rest (and_option os o) all
options_behind name value rest os all o e within (one_more q written inside new more) =
    subst (λ x. AreOptions rest (and_option os x) all) (option_one q o inside within (written ∙ sym e)) more

pub read_on : (words rest : List Word) (name value : Word) (os next : Options) (o : PlanOption) (r : Option Options) → words ≡ name ∷ value ∷ rest
    → option_words o ≡ name ∷ value ∷ [] → IsInRange o → IsNew o os → next ≡ and_option os o
    → MatchOption r ((all : Options) → AreOptions rest next all → ⊥) (λ all. AreOptions rest next all)
    → MatchOption r ((all : Options) → AreOptions words os all → ⊥) (λ all. AreOptions words os all)
read_on words rest name value os next o (Some all) w e within new is more =
    subst (λ x. AreOptions x os all) (sym w) (one_more o e within new (subst (λ x. AreOptions rest x all) is more))
read_on words rest name value os next o None w e within new is more =
    λ all given.
    let behind = options_behind name value rest os all o e within (subst (λ x. AreOptions x os all) w given) in
    more all (subst (λ x. AreOptions rest x all) (sym is) behind)

pub read_none : (words : List Word) (os : Options) → words ≡ [] → AreOptions words os os
read_none words os e = subst (λ x. AreOptions x os os) (sym e) no_more

pub options_one : (words : List Word) (os all other : Options) → AreOptions words os all → AreOptions words os other → all ≡ other
options_one [] os all other no_more no_more = λ _. os
options_one (name ∷ []) os all other here there = elim here [ ]
options_one (name ∷ value ∷ rest) os all other (one_more o written within new more) there =
    options_one rest (and_option os o) all other more (options_behind name value rest os other o written within there)
