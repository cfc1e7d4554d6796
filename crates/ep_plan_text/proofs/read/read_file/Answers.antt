-- The fault of the text is told.
use Rattle.ep_reader.specs.declared.text.TextError.TheVariants as text_error
use Rattle.ep_plan_text.proofs.AnswerLemmas.{text_fault_told}
use Rattle.ep_plan_text.proofs.read.read_file.Goals as goal

pub returns-in-Err-Stray-clause-fault : goal.returns-in-Err-Stray-clause-fault
returns-in-Err-Stray-clause-fault c =
    text_fault_told c.args.bytes.now _ (text_error.Stray c.in-Err-Stray.at) c.in-Err-Stray.field-0-is c.in-Err-Stray.ensures.parsed_by.fault

pub returns-in-Err-TooManyTokens-clause-fault : goal.returns-in-Err-TooManyTokens-clause-fault
returns-in-Err-TooManyTokens-clause-fault c =
    text_fault_told c.args.bytes.now _ text_error.TooManyTokens c.in-Err-TooManyTokens.field-0-is c.in-Err-TooManyTokens.ensures.parsed_by.fault

pub returns-in-Err-Syntax-clause-fault : goal.returns-in-Err-Syntax-clause-fault
returns-in-Err-Syntax-clause-fault c =
    text_fault_told c.args.bytes.now _ (text_error.Syntax c.in-Err-Syntax.token c.in-Err-Syntax.line) c.in-Err-Syntax.field-0-is c.in-Err-Syntax.ensures.parsed_by.fault
