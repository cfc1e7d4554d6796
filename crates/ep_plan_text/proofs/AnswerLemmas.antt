-- What bytes say as a plan file is one thing.
use Rattle.std.proofs.Common.{◌≡◌, ◌≢◌, ℕ, ◌≤◌, ◌<◌, List, length, Some, IfSome, Result, Ok, Err, IfOk, IfErr, All, refl, sym, ap, ◌∙◌, subst, arith, ◌⊎◌, inl, inr, ⊎_elim}
use Rattle.std.specs.Prelude.{AllPairs}
use Rattle.ep_bounds.specs.declared.bounds.Measure.TheVariants.{Cost}
use Rattle.ep_lex.specs.Tokens.{Lexed, line_at}
use Rattle.ep_logic.specs.declared.ids.ActionId.{ActionId}
use Rattle.ep_tree.specs.declared.tree.PlanTree.{PlanTree}
use Rattle.ep_tree.specs.Grammar.{plans}
use Rattle.ep_reader.specs.declared.text.TextError.{TextError}
use Rattle.ep_reader.specs.declared.text.TextError.TheVariants as text_error
use Rattle.ep_reader.specs.Texts.{IsTextOf, IsTextFault}
use Rattle.ep_reader.proofs.CallerLemmas.{text_or_fault, text_fault_one}
use Rattle.ep_theory.specs.Plans.{weight}
use Rattle.ep_ground.specs.Task.{GroundTask}
use Rattle.ep_plan_text.specs.declared.read.PlanError.{PlanError}
use Rattle.ep_plan_text.specs.declared.read.PlanError.TheVariants as error
use Rattle.ep_plan_text.specs.Calls.{NameActions}
use Rattle.ep_plan_text.specs.PlanFiles.{IsFileFault, IsPlanOf, IsTreeFault, HasTreeFault, IsFault, IsPlan}
use Rattle.ep_plan_text.proofs.CallLemmas.{one_plan, one_unknown, known_or_not, named_all}
use Rattle.ep_plan_text.proofs.TreeLemmas.{file_lexed, file_trees}

-- ---- the faults of a tree

Some-injective : (a b : ℕ) → Some a ≡ Some b → a ≡ b
Some-injective a b e = cc

tree_plan_or_fault : (g : GroundTask) (line : ℕ → ℕ) (tree : PlanTree) (plan : List ActionId) (e : PlanError) → IsPlanOf g tree plan → IsTreeFault g line tree e → ⊥
tree_plan_or_fault g line tree plan error.OtherTask x y = y x.task
tree_plan_or_fault g line tree plan (error.UnknownAction l) x y = known_or_not g tree.calls plan y.1.call x.named y.1.first
tree_plan_or_fault g line tree plan (error.WrongCount s l) x y = y.1.differ (y.1.stated_is ∙ x.count ∙ sym y.1.listed_is)
tree_plan_or_fault g line tree plan (error.WrongCost s m) x y =
    let stated : s ≡ weight g.problem Cost plan = subst (λ z. IfSome z (λ cost. cost ≡ weight g.problem Cost plan)) y.1.stated_is x.cost in
    y.1.differ (stated ∙ ap (weight g.problem Cost) (y.1.only plan x.named) ∙ sym y.1.summed_is)
tree_plan_or_fault g line tree plan error.OutOfMemory x y = y
tree_plan_or_fault g line tree plan error.TooManyTokens x y = y
tree_plan_or_fault g line tree plan (error.Stray at) x y = y
tree_plan_or_fault g line tree plan (error.Syntax t l) x y = y

-- a tree has one fault
tree_fault_one : (g : GroundTask) (line : ℕ → ℕ) (tree : PlanTree) (e f : PlanError) → IsTreeFault g line tree e → IsTreeFault g line tree f → e ≡ f
tree_fault_one g line tree error.OtherTask error.OtherTask x y = refl
tree_fault_one g line tree error.OtherTask (error.UnknownAction l) x y = absurd (x y.0)
tree_fault_one g line tree error.OtherTask (error.WrongCount s m) x y = absurd (x y.0)
tree_fault_one g line tree error.OtherTask (error.WrongCost s m) x y = absurd (x y.0)
tree_fault_one g line tree (error.UnknownAction l) error.OtherTask x y = absurd (y x.0)
tree_fault_one g line tree (error.UnknownAction l) (error.UnknownAction k) x y =
    let same = one_unknown g tree.calls x.1.call y.1.call x.1.first y.1.first in
    ap error.UnknownAction (x.1.line_is ∙ ap (λ c. line c.name.token) same ∙ sym y.1.line_is)
tree_fault_one g line tree (error.UnknownAction l) (error.WrongCount s m) x y = absurd (known_or_not g tree.calls y.1.actions x.1.call y.1.named x.1.first)
tree_fault_one g line tree (error.UnknownAction l) (error.WrongCost s m) x y = absurd (known_or_not g tree.calls y.1.actions x.1.call y.1.named x.1.first)
tree_fault_one g line tree (error.WrongCount s m) error.OtherTask x y = absurd (y x.0)
tree_fault_one g line tree (error.WrongCount s m) (error.UnknownAction l) x y = absurd (known_or_not g tree.calls x.1.actions y.1.call x.1.named y.1.first)
tree_fault_one g line tree (error.WrongCount s m) (error.WrongCount r n) x y =
    let a : s ≡ r = x.1.stated_is ∙ sym y.1.stated_is in
    let b : m ≡ n = x.1.listed_is ∙ sym y.1.listed_is in
    λ i. error.WrongCount (a i) (b i)
tree_fault_one g line tree (error.WrongCount s m) (error.WrongCost r n) x y = absurd (x.1.differ (x.1.stated_is ∙ y.1.count ∙ sym x.1.listed_is))
tree_fault_one g line tree (error.WrongCost s m) error.OtherTask x y = absurd (y x.0)
tree_fault_one g line tree (error.WrongCost s m) (error.UnknownAction l) x y = absurd (known_or_not g tree.calls x.1.actions y.1.call x.1.named y.1.first)
tree_fault_one g line tree (error.WrongCost s m) (error.WrongCount r n) x y = absurd (y.1.differ (y.1.stated_is ∙ x.1.count ∙ sym y.1.listed_is))
tree_fault_one g line tree (error.WrongCost s m) (error.WrongCost r n) x y =
    let a : s ≡ r = Some-injective s r (sym x.1.stated_is ∙ y.1.stated_is) in
    let b : m ≡ n = x.1.summed_is ∙ ap (weight g.problem Cost) (y.1.only x.1.actions x.1.named) ∙ sym y.1.summed_is in
    λ i. error.WrongCost (a i) (b i)
tree_fault_one g line tree error.OutOfMemory f x y = absurd x
tree_fault_one g line tree error.TooManyTokens f x y = absurd x
tree_fault_one g line tree (error.Stray at) f x y = absurd x
tree_fault_one g line tree (error.Syntax t n) f x y = absurd x
tree_fault_one g line tree error.OtherTask error.OutOfMemory x y = absurd y
tree_fault_one g line tree error.OtherTask error.TooManyTokens x y = absurd y
tree_fault_one g line tree error.OtherTask (error.Stray at) x y = absurd y
tree_fault_one g line tree error.OtherTask (error.Syntax t n) x y = absurd y
tree_fault_one g line tree (error.UnknownAction l) error.OutOfMemory x y = absurd y
tree_fault_one g line tree (error.UnknownAction l) error.TooManyTokens x y = absurd y
tree_fault_one g line tree (error.UnknownAction l) (error.Stray at) x y = absurd y
tree_fault_one g line tree (error.UnknownAction l) (error.Syntax t n) x y = absurd y
tree_fault_one g line tree (error.WrongCount s m) error.OutOfMemory x y = absurd y
tree_fault_one g line tree (error.WrongCount s m) error.TooManyTokens x y = absurd y
tree_fault_one g line tree (error.WrongCount s m) (error.Stray at) x y = absurd y
tree_fault_one g line tree (error.WrongCount s m) (error.Syntax t n) x y = absurd y
tree_fault_one g line tree (error.WrongCost s m) error.OutOfMemory x y = absurd y
tree_fault_one g line tree (error.WrongCost s m) error.TooManyTokens x y = absurd y
tree_fault_one g line tree (error.WrongCost s m) (error.Stray at) x y = absurd y
tree_fault_one g line tree (error.WrongCost s m) (error.Syntax t n) x y = absurd y

-- ---- a text that is a file, or is none

-- the same of the tokens and the tree of another reading
moved : (g : GroundTask) (bytes : List ℕ) (ts us : Lexed) (p q : PlanTree) (e : PlanError) → IsTextOf plans bytes ts p → IsTextOf plans bytes us q → IsTreeFault g (line_at us) q e → IsTreeFault g (line_at ts) p e
moved g bytes ts us p q e f h x =
    subst (λ z. IsTreeFault g (line_at z) p e) (sym (file_lexed bytes ts us p q f h))
    (subst (λ z. IsTreeFault g (line_at us) z e) (sym (file_trees bytes ts us p q f h)) x)

-- in a file a fault is one of its tree
with_file : (g : GroundTask) (bytes : List ℕ) (found : Lexed) (tree : PlanTree) (e : PlanError) → IsTextOf plans bytes found tree → IsFault g bytes e → IsTreeFault g (line_at found) tree e
with_file g bytes found tree (error.Stray at) f x = text_or_fault plans bytes found tree (text_error.Stray at) f x
with_file g bytes found tree error.TooManyTokens f x = text_or_fault plans bytes found tree text_error.TooManyTokens f x
with_file g bytes found tree (error.Syntax t n) f x = text_or_fault plans bytes found tree (text_error.Syntax t n) f x
with_file g bytes found tree error.OtherTask f x = moved g bytes found x.found tree x.tree error.OtherTask f x.file x.fault
with_file g bytes found tree (error.UnknownAction l) f x = moved g bytes found x.found tree x.tree (error.UnknownAction l) f x.file x.fault
with_file g bytes found tree (error.WrongCount s m) f x = moved g bytes found x.found tree x.tree (error.WrongCount s m) f x.file x.fault
with_file g bytes found tree (error.WrongCost s m) f x = moved g bytes found x.found tree x.tree (error.WrongCost s m) f x.file x.fault
with_file g bytes found tree error.OutOfMemory f x = x

-- as a plan file's error
abbrev pub told_as : TextError → PlanError
told_as (text_error.Stray at) = error.Stray at
told_as text_error.TooManyTokens = error.TooManyTokens
told_as (text_error.Syntax t n) = error.Syntax t n
told_as (text_error.TooDeep t n) = error.OutOfMemory
told_as text_error.OutOfMemory = error.OutOfMemory

-- a fault of the text is the only one
with_text : (g : GroundTask) (bytes : List ℕ) (e : TextError) (f : PlanError) → IsTextFault plans bytes e → IsFault g bytes f → told_as e ≡ f
with_text g bytes e (error.Stray at) x y = ap told_as (text_fault_one plans bytes e (text_error.Stray at) x y)
with_text g bytes e error.TooManyTokens x y = ap told_as (text_fault_one plans bytes e text_error.TooManyTokens x y)
with_text g bytes e (error.Syntax t n) x y = ap told_as (text_fault_one plans bytes e (text_error.Syntax t n) x y)
with_text g bytes e error.OtherTask x y = absurd (text_or_fault plans bytes y.found y.tree e y.file x)
with_text g bytes e (error.UnknownAction l) x y = absurd (text_or_fault plans bytes y.found y.tree e y.file x)
with_text g bytes e (error.WrongCount s m) x y = absurd (text_or_fault plans bytes y.found y.tree e y.file x)
with_text g bytes e (error.WrongCost s m) x y = absurd (text_or_fault plans bytes y.found y.tree e y.file x)
with_text g bytes e error.OutOfMemory x y = absurd y

with_tree : (g : GroundTask) (bytes : List ℕ) (e f : PlanError) → HasTreeFault g bytes e → IsFault g bytes f → e ≡ f
with_tree g bytes e f x y = tree_fault_one g (line_at x.found) x.tree e f x.fault (with_file g bytes x.found x.tree f x.file y)

-- bytes have one fault
pub fault_one : (g : GroundTask) (bytes : List ℕ) (e f : PlanError) → IsFault g bytes e → IsFault g bytes f → e ≡ f
fault_one g bytes (error.Stray at) f x y = with_text g bytes (text_error.Stray at) f x y
fault_one g bytes error.TooManyTokens f x y = with_text g bytes text_error.TooManyTokens f x y
fault_one g bytes (error.Syntax t n) f x y = with_text g bytes (text_error.Syntax t n) f x y
fault_one g bytes error.OtherTask f x y = with_tree g bytes error.OtherTask f x y
fault_one g bytes (error.UnknownAction l) f x y = with_tree g bytes (error.UnknownAction l) f x y
fault_one g bytes (error.WrongCount s m) f x y = with_tree g bytes (error.WrongCount s m) f x y
fault_one g bytes (error.WrongCost s m) f x y = with_tree g bytes (error.WrongCost s m) f x y
fault_one g bytes error.OutOfMemory f x y = absurd x

-- bytes are a plan or have a fault, and not both
pub plan_or_fault : (g : GroundTask) (bytes : List ℕ) (plan : List ActionId) (e : PlanError) → IsPlan g bytes plan → IsFault g bytes e → ⊥
plan_or_fault g bytes plan e x y = tree_plan_or_fault g (line_at x.found) x.tree plan e x.plan_of (with_file g bytes x.found x.tree e x.file y)

-- ---- of the code's answers

-- in a file that is read, the actions that the calls name are these alone
abbrev pub IsAlone : GroundTask → PlanTree → Result (List ActionId) PlanError → Type 0
IsAlone g tree r = IfOk r (λ plan. (other : List ActionId) → NameActions g tree.calls other → other ≡ plan)

-- the fault of a tree that is read is the fault of the bytes
tree_fault_is : (g : GroundTask) (bytes : List ℕ) (found : Lexed) (tree : PlanTree) (e : PlanError) → IsTextOf plans bytes found tree → IsTreeFault g (line_at found) tree e → IsFault g bytes e
tree_fault_is g bytes found tree error.OtherTask f x = record { found = found; tree = tree; file = f; fault = x }
tree_fault_is g bytes found tree (error.UnknownAction l) f x = record { found = found; tree = tree; file = f; fault = x }
tree_fault_is g bytes found tree (error.WrongCount s m) f x = record { found = found; tree = tree; file = f; fault = x }
tree_fault_is g bytes found tree (error.WrongCost s m) f x = record { found = found; tree = tree; file = f; fault = x }
tree_fault_is g bytes found tree error.OutOfMemory f x = absurd x
tree_fault_is g bytes found tree error.TooManyTokens f x = absurd x
tree_fault_is g bytes found tree (error.Stray at) f x = absurd x
tree_fault_is g bytes found tree (error.Syntax t n) f x = absurd x

pub file_fault_is : (g : GroundTask) (bytes : List ℕ) (e : PlanError) → (e ≡ error.OutOfMemory) ⊎ IsFileFault bytes e → (e ≡ error.OutOfMemory) ⊎ IsFault g bytes e
file_fault_is g bytes e (inl none) = inl none
file_fault_is g bytes (error.Stray at) (inr x) = inr x
file_fault_is g bytes error.TooManyTokens (inr x) = inr x
file_fault_is g bytes (error.Syntax t n) (inr x) = inr x
file_fault_is g bytes error.OtherTask (inr x) = absurd x
file_fault_is g bytes (error.UnknownAction l) (inr x) = absurd x
file_fault_is g bytes (error.WrongCount s m) (inr x) = absurd x
file_fault_is g bytes (error.WrongCost s m) (inr x) = absurd x
file_fault_is g bytes error.OutOfMemory (inr x) = absurd x

-- the fault of the text that is read is the fault of the file
pub text_fault_told : (bytes : List ℕ) (e told : TextError) → e ≡ told → (e ≡ text_error.OutOfMemory) ⊎ IsTextFault plans bytes e
    → (told_as told ≡ error.OutOfMemory) ⊎ IsFileFault bytes (told_as told)
text_fault_told bytes e told is f = by_error told (subst (λ z. (z ≡ text_error.OutOfMemory) ⊎ IsTextFault plans bytes z) is f)
  where
    by_error : (d : TextError) → (d ≡ text_error.OutOfMemory) ⊎ IsTextFault plans bytes d → (told_as d ≡ error.OutOfMemory) ⊎ IsFileFault bytes (told_as d)
    by_error d (inl want) = inl (ap told_as want)
    by_error (text_error.Stray at) (inr f) = inr f
    by_error text_error.TooManyTokens (inr f) = inr f
    by_error (text_error.Syntax t n) (inr f) = inr f
    by_error (text_error.TooDeep t n) (inr f) = inl refl
    by_error text_error.OutOfMemory (inr f) = absurd f

pub judged_plan : (g : GroundTask) (bytes : List ℕ) (found : Lexed) (tree : PlanTree) (r : Result (List ActionId) PlanError) → IsTextOf plans bytes found tree → IfOk r (IsPlanOf g tree) → IfOk r (IsPlan g bytes)
judged_plan g bytes found tree (Ok p) f x = record { found = found; tree = tree; file = f; plan_of = x }
judged_plan g bytes found tree (Err e) f x = tt

pub judged_fault : (g : GroundTask) (bytes : List ℕ) (found : Lexed) (tree : PlanTree) (r : Result (List ActionId) PlanError) → IsTextOf plans bytes found tree
    → IfErr r (λ e. (e ≡ error.OutOfMemory) ⊎ IsTreeFault g (line_at found) tree e) → IfErr r (λ e. (e ≡ error.OutOfMemory) ⊎ IsFault g bytes e)
judged_fault g bytes found tree (Ok p) f x = tt
judged_fault g bytes found tree (Err err) f (inl none) = inl none
judged_fault g bytes found tree (Err err) f (inr x) = inr (tree_fault_is g bytes found tree err f x)

-- of another reading too
pub alone_there : (g : GroundTask) (bytes : List ℕ) (found : Lexed) (tree : PlanTree) (r : Result (List ActionId) PlanError) → IsTextOf plans bytes found tree → IsAlone g tree r
    → (us : Lexed) (other : PlanTree) → IsTextOf plans bytes us other → IsAlone g other r
alone_there g bytes found tree r f x us other h = subst (λ z. IsAlone g z r) (file_trees bytes found us tree other f h) x

pub judged_all : (g : GroundTask) (tree : PlanTree) (n : ℕ) (r : Result (List ActionId) PlanError) → length tree.calls ≤ n → IfOk r (IsPlanOf g tree)
    → IfOk r (λ plan. length plan ≤ n) × IfOk r (All (λ a. a.n < length g.actions))
judged_all g tree n (Ok p) l x = let all = named_all g tree.calls p x.named in (omega (arith, all.0), all.1)
judged_all g tree n (Err e) l x = (tt, tt)

-- the plan is told, or memory is wanting
abbrev pub TellsPlan : Result (List ActionId) PlanError → List ActionId → Type 0
TellsPlan r plan = (r ≡ Ok plan) ⊎ (r ≡ Err error.OutOfMemory)

-- the fault is told, or memory is wanting
abbrev pub TellsFault : Result (List ActionId) PlanError → PlanError → Type 0
TellsFault r e = (r ≡ Err e) ⊎ (r ≡ Err error.OutOfMemory)

pub err_plan : (g : GroundTask) (bytes : List ℕ) (e : PlanError) → (e ≡ error.OutOfMemory) ⊎ IsFileFault bytes e → (plan : List ActionId) → IsPlan g bytes plan → TellsPlan (Err e) plan
err_plan g bytes e x plan y = ⊎_elim (λ none. inr (ap Err none)) (λ z. absurd (plan_or_fault g bytes plan e y z)) (file_fault_is g bytes e x)

pub err_fault : (g : GroundTask) (bytes : List ℕ) (e : PlanError) → (e ≡ error.OutOfMemory) ⊎ IsFileFault bytes e → (f : PlanError) → IsFault g bytes f → TellsFault (Err e) f
err_fault g bytes e x f y = ⊎_elim (λ none. inr (ap Err none)) (λ z. inl (ap Err (fault_one g bytes e f z y))) (file_fault_is g bytes e x)

pub told_plan : (g : GroundTask) (bytes : List ℕ) (r : Result (List ActionId) PlanError) → IfOk r (IsPlan g bytes) → IfErr r (λ e. (e ≡ error.OutOfMemory) ⊎ IsFault g bytes e)
    → ((found : Lexed) (tree : PlanTree) → IsTextOf plans bytes found tree → IsAlone g tree r)
    → (plan : List ActionId) → IsPlan g bytes plan → TellsPlan r plan
told_plan g bytes (Ok p) a b alone plan x = inl (ap Ok (sym (alone x.found x.tree x.file plan x.plan_of.named)))
told_plan g bytes (Err e) a b alone plan x = ⊎_elim (λ none. inr (ap Err none)) (λ y. absurd (plan_or_fault g bytes plan e x y)) b

pub told_fault : (g : GroundTask) (bytes : List ℕ) (r : Result (List ActionId) PlanError) → IfOk r (IsPlan g bytes) → IfErr r (λ e. (e ≡ error.OutOfMemory) ⊎ IsFault g bytes e)
    → (e : PlanError) → IsFault g bytes e → TellsFault r e
told_fault g bytes (Ok p) a b e x = absurd (plan_or_fault g bytes p e a x)
told_fault g bytes (Err f) a b e x = ⊎_elim (λ none. inr (ap Err none)) (λ y. inl (ap Err (fault_one g bytes f e y x))) b

-- bytes are one plan
pub plan_one : (g : GroundTask) (bytes : List ℕ) (p q : List ActionId) → AllPairs (λ x y. x ≢ y) g.actions → IsPlan g bytes p → IsPlan g bytes q → p ≡ q
plan_one g bytes p q apart x y =
    one_plan g x.tree.calls p q apart x.plan_of.named
    (subst (λ z. NameActions g z.calls q) (sym (file_trees bytes x.found y.found x.tree y.tree x.file y.file)) y.plan_of.named)
