use Rattle.ep_tree.specs.declared.terminal.Terminal.TheVariants as the
use Rattle.ep_tree.specs.Spelling.{formula_at}
use Rattle.ep_layout.proofs.PrintedLemmas.{on_ok, behind-next}
use Rattle.ep_layout.proofs.PrintedFormulas.{prints-Common, prints-Forall, prints-Exists, prints-Paren, prints-And, prints-Or, Prints-seen, PrintsParts-seen, parameters-seen, printed-parts}
use Rattle.ep_layout.proofs.print.formula.+print_formula.Goals as goal

pub print_formula-returns-in_ok-print-in-Common : goal.print_formula-returns-in_ok-print-in-Common
print_formula-returns-in_ok-print-in-Common t c =
    on_ok c.print_formula-in-Common.result
    (λ inner. prints-Common c.args.printer.now c.write_terminal-in-Common.new.self c.print-in-Common.new.printer c.print_formula-in-Common.new.printer c.args.formula.now
    c.in-Common.token c.in-Common.group c.in-Common.inner c.in-Common.is c.in_ok-write_terminal-in-Common.ensures c.in_ok-print-in-Common.ensures
    (Prints-seen c.print-in-Common.new.printer c.print_formula-in-Common.new.printer c.get-in-Common.result.now c.in-Common.inner c.get-in-Common.ensures inner))
    c.print_formula-in-Common.ensures

pub print_formula-returns-in_ok-print_params-in-Forall : goal.print_formula-returns-in_ok-print_params-in-Forall
print_formula-returns-in_ok-print_params-in-Forall t c =
    let ps = parameters-seen c.write_terminal-in-Forall.new.self c.print_params.new.printer c.as_slice.result.now c.in-Forall.params c.as_slice.ensures c.in_ok-print_params-in-Forall.ensures in
    on_ok c.print_formula-in-Forall.result
    (λ inner. prints-Forall c.args.printer.now c.write_terminal-in-Forall.new.self c.print_params.new.printer c.print_formula-in-Forall.new.printer c.args.formula.now
    c.in-Forall.token c.in-Forall.params c.in-Forall.inner c.in-Forall.is c.in_ok-write_terminal-in-Forall.ensures ps
    (Prints-seen c.print_params.new.printer c.print_formula-in-Forall.new.printer c.get-in-Forall.result.now c.in-Forall.inner c.get-in-Forall.ensures inner))
    c.print_formula-in-Forall.ensures

pub print_formula-returns-in_ok-print_params-in-Exists : goal.print_formula-returns-in_ok-print_params-in-Exists
print_formula-returns-in_ok-print_params-in-Exists t c =
    let ps = parameters-seen c.write_terminal-in-Exists.new.self c.print_params-in-Exists.new.printer c.as_slice-in-Exists.result.now c.in-Exists.params c.as_slice-in-Exists.ensures c.in_ok-print_params-in-Exists.ensures in
    on_ok c.print_formula-in-Exists.result
    (λ inner. prints-Exists c.args.printer.now c.write_terminal-in-Exists.new.self c.print_params-in-Exists.new.printer c.print_formula-in-Exists.new.printer c.args.formula.now
    c.in-Exists.token c.in-Exists.params c.in-Exists.inner c.in-Exists.is c.in_ok-write_terminal-in-Exists.ensures ps
    (Prints-seen c.print_params-in-Exists.new.printer c.print_formula-in-Exists.new.printer c.get-in-Exists.result.now c.in-Exists.inner c.get-in-Exists.ensures inner))
    c.print_formula-in-Exists.ensures

pub print_formula-returns-in_ok-print_formula-in-Paren : goal.print_formula-returns-in_ok-print_formula-in-Paren
print_formula-returns-in_ok-print_formula-in-Paren t c =
    let inner = Prints-seen c.write_terminal-in-Paren.new.self c.print_formula-in-Paren.new.printer c.get-in-Paren.result.now c.in-Paren.inner c.get-in-Paren.ensures c.in_ok-print_formula-in-Paren.ensures in
    on_ok c.write_terminal-in-Paren-2.result
    (prints-Paren c.args.printer.now c.write_terminal-in-Paren.new.self c.print_formula-in-Paren.new.printer c.write_terminal-in-Paren-2.new.self c.args.formula.now
    c.in-Paren.token c.in-Paren.inner c.in-Paren.is c.in_ok-write_terminal-in-Paren.ensures inner)
    c.write_terminal-in-Paren-2.ensures

pub print_formula-returns-in_ok-print_parts-in-And : goal.print_formula-returns-in_ok-print_parts-in-And
print_formula-returns-in_ok-print_parts-in-And t c =
    let ps = PrintsParts-seen c.write_terminal-in-And.new.self c.print_parts.new.printer the.And c.as_slice-in-And.result.now c.in-And.parts c.as_slice-in-And.ensures
    c.in_ok-print_parts-in-And.ensures in
    on_ok c.write_terminal-in-And-2.result
    (prints-And c.args.printer.now c.write_terminal-in-And.new.self c.print_parts.new.printer c.write_terminal-in-And-2.new.self c.args.formula.now
    c.in-And.token c.in-And.parts c.in-And.is c.in_ok-write_terminal-in-And.ensures ps)
    c.write_terminal-in-And-2.ensures

pub print_formula-returns-in_ok-print_parts-in-Or : goal.print_formula-returns-in_ok-print_parts-in-Or
print_formula-returns-in_ok-print_parts-in-Or t c =
    let ps = PrintsParts-seen c.write_terminal-in-Or.new.self c.print_parts-in-Or.new.printer the.Or c.as_slice-in-Or.result.now c.in-Or.parts c.as_slice-in-Or.ensures
    c.in_ok-print_parts-in-Or.ensures in
    on_ok c.write_terminal-in-Or-2.result
    (prints-Or c.args.printer.now c.write_terminal-in-Or.new.self c.print_parts-in-Or.new.printer c.write_terminal-in-Or-2.new.self c.args.formula.now
    c.in-Or.token c.in-Or.parts c.in-Or.is c.in_ok-write_terminal-in-Or.ensures ps)
    c.write_terminal-in-Or-2.ensures

pub print_parts-loop-part-preserved : goal.print_parts-loop-part-preserved
print_parts-loop-part-preserved t c = λ k.
    behind-next c.args.terminal (λ f. formula_at f k) c.in-Some.rest.now c.loop-part.part-index c.part-item.result c.loop-part.printer c.write_terminal.new.self
    c.print_formula-in-loop-part.new.printer _ c.loop-part-test.true c.part-item.is c.in_ok-write_terminal.ensures (c.in_ok-print_formula-2.ensures k) (c.loop-part.invariant k)

pub print_parts-returns : goal.print_parts-returns
print_parts-returns t c = λ k.
    printed-parts c.args.printer.now c.print_formula.new.printer c.loop-part.printer c.args.terminal c.args.parts.now c.in-Some.first.now c.in-Some.rest.now c.loop-part.part-index
    c.in-Some.ensures.cases c.in_ok-print_formula.ensures c.loop-part-test.false c.loop-part.invariant k
