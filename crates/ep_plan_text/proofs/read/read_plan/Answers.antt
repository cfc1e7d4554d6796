use Rattle.std.proofs.Common.{arith}
use Rattle.std.proofs.lemmas.Result.{err_from_is_err_and}
use Rattle.std.proofs.lemmas.List.{length-map}
use Rattle.ep_lex.specs.Tokens.{spelling, spellings}
use Rattle.ep_plan_text.proofs.AnswerLemmas.{judged_plan, judged_fault, judged_all, alone_there, told_plan, told_fault, err_plan, err_fault}
use Rattle.ep_plan_text.proofs.TreeLemmas.{calls_among}
use Rattle.ep_plan_text.proofs.read.read_plan.Goals as goal

pub returns-in_err-file-clause-plan_is_told : goal.returns-in_err-file-clause-plan_is_told
returns-in_err-file-clause-plan_is_told c =
    let p = err_from_is_err_and c.from_residual.result c.from_residual.ensures.1 in
    rw (p.1, p.2) (err_plan c.args.task.now c.args.bytes.now _ c.in_err-file.ensures.fault)

pub returns-in_err-file-clause-fault_is_told : goal.returns-in_err-file-clause-fault_is_told
returns-in_err-file-clause-fault_is_told c =
    let p = err_from_is_err_and c.from_residual.result c.from_residual.ensures.1 in
    rw (p.1, p.2) (err_fault c.args.task.now c.args.bytes.now _ c.in_err-file.ensures.fault)

pub find_plan-requires-clause-places : goal.find_plan-requires-clause-places
find_plan-requires-clause-places c = λ k d l.
    let file = c.in_ok-file.file in
    let among = calls_among (spellings c.args.bytes.now file.tokens.tokens) file.tree c.in_ok-file.ensures.file.reads in
    omega (arith, among.places k d l, length-map file.tokens.tokens (spelling c.args.bytes.now))

pub find_plan-requires-clause-few : goal.find_plan-requires-clause-few
find_plan-requires-clause-few c =
    let file = c.in_ok-file.file in
    let among = calls_among (spellings c.args.bytes.now file.tokens.tokens) file.tree c.in_ok-file.ensures.file.reads in
    omega (arith, among.few, length-map file.tokens.tokens (spelling c.args.bytes.now), c.in_ok-file.ensures.file.lexed.few)

pub returns-clause-plan_is_told : goal.returns-clause-plan_is_told
returns-clause-plan_is_told c =
    let file = c.in_ok-file.file in
    let g = c.args.task.now in
    let bytes = c.args.bytes.now in
    let r = c.find_plan.result in
    told_plan g bytes r (judged_plan g bytes file.tokens file.tree r c.in_ok-file.ensures.file c.find_plan.ensures.plan)
    (judged_fault g bytes file.tokens file.tree r c.in_ok-file.ensures.file c.find_plan.ensures.fault)
    (alone_there g bytes file.tokens file.tree r c.in_ok-file.ensures.file c.find_plan.ensures.only)

pub returns-clause-fault_is_told : goal.returns-clause-fault_is_told
returns-clause-fault_is_told c =
    let file = c.in_ok-file.file in
    let g = c.args.task.now in
    let bytes = c.args.bytes.now in
    let r = c.find_plan.result in
    told_fault g bytes r (judged_plan g bytes file.tokens file.tree r c.in_ok-file.ensures.file c.find_plan.ensures.plan)
    (judged_fault g bytes file.tokens file.tree r c.in_ok-file.ensures.file c.find_plan.ensures.fault)

pub returns-clause-few : goal.returns-clause-few
returns-clause-few c =
    let file = c.in_ok-file.file in
    let among = calls_among (spellings c.args.bytes.now file.tokens.tokens) file.tree c.in_ok-file.ensures.file.reads in
    (judged_all c.args.task.now file.tree 262144 c.find_plan.result
    (omega (arith, among.few, length-map file.tokens.tokens (spelling c.args.bytes.now), c.in_ok-file.ensures.file.lexed.few)) c.find_plan.ensures.plan).0

pub returns-clause-of_task : goal.returns-clause-of_task
returns-clause-of_task c =
    let file = c.in_ok-file.file in
    let among = calls_among (spellings c.args.bytes.now file.tokens.tokens) file.tree c.in_ok-file.ensures.file.reads in
    (judged_all c.args.task.now file.tree 262144 c.find_plan.result
    (omega (arith, among.few, length-map file.tokens.tokens (spelling c.args.bytes.now), c.in_ok-file.ensures.file.lexed.few)) c.find_plan.ensures.plan).1
