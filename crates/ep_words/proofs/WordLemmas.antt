-- Words are those of at most one command.
use Rattle.std.proofs.Common.{rules, Option, Some, None, Result, MatchOption, IfOk, ok_or, ◌≡◌, List, [], ◌∷◌, arith, subst, sym, ap, ◌∙◌}
use Rattle.std.proofs.lemmas.Fmt.{decimal_injective}
use Rattle.ep_words.specs.declared.command.Command.{Command}
use Rattle.ep_words.specs.declared.command.Usage.{Usage}
use Rattle.ep_words.specs.declared.command.Command.TheVariants.{Plan, Validate, Eval, State, Contract, Same, Check, Trial, Apart}
use Rattle.ep_words.specs.Options.{Word, no_options, AreOptions, plan_of}
use Rattle.ep_words.specs.Words.{IsCommand, AreArguments, IsPlanned, verb}
use Rattle.ep_words.proofs.OptionLemmas.{options_one}

first : {a b : Word} → a ∷ [] ≡ b ∷ [] → a ≡ b
first e = search (rules, e)

planned_one : (words : List Word) (c d : Command) → IsPlanned words c → IsPlanned words d → c ≡ d
planned_one words c d here there =
    let same : here.options ≡ there.options = search (rules, here.words_are, there.words_are) in
    here.makes ∙ ap plan_of (options_one there.options no_options here.all there.all (subst (λ x. AreOptions x no_options here.all) same here.are_options) there.are_options) ∙ sym there.makes

command_one : (c d : Command) (words : List Word) → AreArguments c words → AreArguments d words → verb c ≡ verb d → c ≡ d
command_one (Plan b g f) (Plan b2 g2 f2) words here there e = planned_one words (Plan b g f) (Plan b2 g2 f2) here there
command_one (Plan b g f) Validate words here there e = search (rules, e)
command_one (Plan b g f) Eval words here there e = search (rules, e)
command_one (Plan b g f) State words here there e = search (rules, e)
command_one (Plan b g f) Contract words here there e = search (rules, e)
command_one (Plan b g f) Same words here there e = search (rules, e)
command_one (Plan b g f) Check words here there e = search (rules, e)
command_one (Plan b g f) (Trial n2) words here there e = search (rules, e)
command_one (Plan b g f) Apart words here there e = search (rules, e)
command_one Validate (Plan b2 g2 f2) words here there e = search (rules, e)
command_one Validate Validate words here there e = λ _. Validate
command_one Validate Eval words here there e = search (rules, e)
command_one Validate State words here there e = search (rules, e)
command_one Validate Contract words here there e = search (rules, e)
command_one Validate Same words here there e = search (rules, e)
command_one Validate Check words here there e = search (rules, e)
command_one Validate (Trial n2) words here there e = search (rules, e)
command_one Validate Apart words here there e = search (rules, e)
command_one Eval (Plan b2 g2 f2) words here there e = search (rules, e)
command_one Eval Validate words here there e = search (rules, e)
command_one Eval Eval words here there e = λ _. Eval
command_one Eval State words here there e = search (rules, e)
command_one Eval Contract words here there e = search (rules, e)
command_one Eval Same words here there e = search (rules, e)
command_one Eval Check words here there e = search (rules, e)
command_one Eval (Trial n2) words here there e = search (rules, e)
command_one Eval Apart words here there e = search (rules, e)
command_one State (Plan b2 g2 f2) words here there e = search (rules, e)
command_one State Validate words here there e = search (rules, e)
command_one State Eval words here there e = search (rules, e)
command_one State State words here there e = λ _. State
command_one State Contract words here there e = search (rules, e)
command_one State Same words here there e = search (rules, e)
command_one State Check words here there e = search (rules, e)
command_one State (Trial n2) words here there e = search (rules, e)
command_one State Apart words here there e = search (rules, e)
command_one Contract (Plan b2 g2 f2) words here there e = search (rules, e)
command_one Contract Validate words here there e = search (rules, e)
command_one Contract Eval words here there e = search (rules, e)
command_one Contract State words here there e = search (rules, e)
command_one Contract Contract words here there e = λ _. Contract
command_one Contract Same words here there e = search (rules, e)
command_one Contract Check words here there e = search (rules, e)
command_one Contract (Trial n2) words here there e = search (rules, e)
command_one Contract Apart words here there e = search (rules, e)
command_one Same (Plan b2 g2 f2) words here there e = search (rules, e)
command_one Same Validate words here there e = search (rules, e)
command_one Same Eval words here there e = search (rules, e)
command_one Same State words here there e = search (rules, e)
command_one Same Contract words here there e = search (rules, e)
command_one Same Same words here there e = λ _. Same
command_one Same Check words here there e = search (rules, e)
command_one Same (Trial n2) words here there e = search (rules, e)
command_one Same Apart words here there e = search (rules, e)
command_one Check (Plan b2 g2 f2) words here there e = search (rules, e)
command_one Check Validate words here there e = search (rules, e)
command_one Check Eval words here there e = search (rules, e)
command_one Check State words here there e = search (rules, e)
command_one Check Contract words here there e = search (rules, e)
command_one Check Same words here there e = search (rules, e)
command_one Check Check words here there e = λ _. Check
command_one Check (Trial n2) words here there e = search (rules, e)
command_one Check Apart words here there e = search (rules, e)
command_one (Trial n) (Plan b2 g2 f2) words here there e = search (rules, e)
command_one (Trial n) Validate words here there e = search (rules, e)
command_one (Trial n) Eval words here there e = search (rules, e)
command_one (Trial n) State words here there e = search (rules, e)
command_one (Trial n) Contract words here there e = search (rules, e)
command_one (Trial n) Same words here there e = search (rules, e)
command_one (Trial n) Check words here there e = search (rules, e)
command_one (Trial n) (Trial m) words here there e = ap Trial (decimal_injective n m (omega (arith, here.2)) (omega (arith, there.2)) (first (sym here.0 ∙ there.0)))
command_one (Trial n) Apart words here there e = search (rules, e)
command_one Apart (Plan b2 g2 f2) words here there e = search (rules, e)
command_one Apart Validate words here there e = search (rules, e)
command_one Apart Eval words here there e = search (rules, e)
command_one Apart State words here there e = search (rules, e)
command_one Apart Contract words here there e = search (rules, e)
command_one Apart Same words here there e = search (rules, e)
command_one Apart Check words here there e = search (rules, e)
command_one Apart (Trial n2) words here there e = search (rules, e)
command_one Apart Apart words here there e = λ _. Apart

pub only_command : (words : List Word) (c d : Command) → IsCommand words c → IsCommand words d → d ≡ c
only_command [] c d here there = absurd here
only_command (w ∷ words) c d here there = command_one d c words there.1 here.1 (sym there.0 ∙ here.0)

pub only_if_command : (words front : List Word) (r : Option Command) (answer : Result Command Usage) (u : Usage) → words ≡ front
    → MatchOption r ((c : Command) → IsCommand front c → ⊥) (IsCommand front) → answer ≡ ok_or r u
    → IfOk answer (λ c. (d : Command) → IsCommand words d → d ≡ c)
only_if_command words front (Some c) answer u w is e =
    subst (λ x. IfOk x (λ c. (d : Command) → IsCommand words d → d ≡ c)) (sym e)
    (λ d there. only_command front c d is (subst (λ x. IsCommand x d) w there))
only_if_command words front None answer u w is e = subst (λ x. IfOk x (λ c. (d : Command) → IsCommand words d → d ≡ c)) (sym e) tt
