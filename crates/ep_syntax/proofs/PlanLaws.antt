-- The law of the reader of plan files.
use Rattle.std.proofs.Common.{◌≡◌, ℕ, Bool, true, false, List, [], ◌∷◌, ◌++◌, map, Option, Some, None, IfSome, Result, Err, IfErr, refl, sym, ap, ◌∙◌, subst, arith, append_assoc, ◌⊎◌, inl, inr}
use Rattle.std.specs.List.{flat_map}
use Rattle.std.proofs.lemmas.Bool.{false≢true}
use Rattle.ep_tree.specs.declared.terminal.Terminal.{Terminal}
use Rattle.ep_tree.specs.declared.terminal.Terminal.TheVariants as the
use Rattle.ep_tree.specs.declared.tree.Name.{Name}
use Rattle.ep_tree.specs.declared.tree.CallTree.{CallTree}
use Rattle.ep_tree.specs.declared.tree.PlanTree.{PlanTree}
use Rattle.ep_tree.specs.Bare.{bare_name, bare_call}
use Rattle.ep_tree.specs.Formed.{IsFormedName, IsFormedCount, IsFormedCall}
use Rattle.ep_tree.specs.Grammar.{Grammar, plans, IsDeep}
use Rattle.ep_tree.specs.Marks.{Mark, fixed, named, texts, IsShallow}
use Rattle.ep_base.specs.Refusals.{OrWant}
use Rattle.ep_lex.specs.Tokens.{spellings}
use Rattle.ep_reader.specs.declared.text.TextError.{TextError}
use Rattle.ep_reader.specs.declared.text.TextError.TheVariants as error
use Rattle.ep_reader.specs.declared.text.ParsedText.{ParsedText}
use Rattle.ep_reader.specs.Texts.{IsDepthFault, IsTextFault}
use Rattle.ep_syntax.specs.PlanReading.{call, title, Heading, uncosted, costed, heading, plan}
use Rattle.ep_reader.specs.Reading.{Token, begins, each, whole}
use Rattle.ep_tree.specs.Terminals.{is}
use Rattle.ep_tree.specs.Spelling as spell
use Rattle.ep_tree.specs.Spelling.{behind}
use Rattle.ep_tree.specs.Terminals.{is_name}
use Rattle.ep_syntax.proofs.AtomLaws.{NotOpen, arguments_part}
use Rattle.ep_reader.proofs.CallerLemmas.{Agree, Agree-heads, Follow, Outcome, both, Made, each_of, each_part, behind_of, keyed_part, Part, Any, Next, pair, then, made_by, made_all, either, is-true, next_lacks, plain_reads, plain_part, names_one, name_part, some_name, IsEmpty, whole_outcome, Flat, counts_of, count_part, flat_append, flat_none, flat_shallow}

-- ---- calls

abbrev pub calls_one : Grammar CallTree
calls_one = record { marks = spell.call; IsFormed = IsFormedCall; bare = bare_call }

pub call_part : Part calls_one NotOpen call
unfolding call
call_part = record {
  reads = λ n ts. made_all (record { marks = λ _ _. refl; formed = λ _ f. f; bare = λ _. refl })
      (λ b f. record { from = (b.name, b.args); formed = f; is = refl })
      (then (name_part.reads n ts) arguments_part);
  value = record { name = some_name; args = [] };
  formed = (refl, tt);
}

-- a name is no parenthesis
name_not_open : (text : List ℕ) → is_name text ≡ true → is the.OpenParen text ≡ false
name_not_open text e = by_test (is the.OpenParen text) refl
  where
    by_test : (b : Bool) → is the.OpenParen text ≡ b → b ≡ false
    by_test true h = absurd (false≢true (ap is_name (sym (is-true the.OpenParen text h)) ∙ e))
    by_test false h = refl

pub calls_part : Part (each_of calls_one) (Next the.End) (each is_name call)
calls_part = each_part is_name calls_one NotOpen (Next the.End) call call_part (λ _ _ f. f.0) (λ a _ f. name_not_open a.name.text f.0)
    (next_lacks the.End (is the.OpenParen) refl) (next_lacks the.End is_name refl)

-- ---- plan files

abbrev titles_of : Terminal → Grammar Name
titles_of version = behind_of version (behind_of the.Task names_one)

title_part : {F : Follow} (version : Terminal) → Part (titles_of version) F (title version)
title_part version = keyed_part version (keyed_part the.Task name_part)

abbrev costs_of : Grammar ℕ
costs_of = behind_of the.Cost (counts_of IsFormedCount)

-- what stands between `plan` and `actions`
abbrev headings_of : Grammar Heading
headings_of = record {
  marks = λ h. spell.version h.1 ∷ fixed the.Task ∷ named h.0 ∷ spell.cost h.1;
  IsFormed = λ h. IsFormedName h.0 × IfSome h.1 IsFormedCount;
  bare = λ h. (bare_name h.0, h.1);
}

uncosted_back : (ts : List Token) → begins the.One ts ≡ true → (b : Heading) (more : List Token) → headings_of.IsFormed b → Agree 1 ts (texts (headings_of.marks b) ++ more)
    → Made (titles_of the.One) uncosted b
uncosted_back ts e (task, None) more f a = record { from = task; formed = f.0; is = refl }
uncosted_back ts e (task, Some c) more f a = absurd (false≢true (sym (Agree-heads (is the.One) ts _ a) ∙ e))

costed_back : (ts : List Token) → begins the.One ts ≡ false → (b : Heading) (more : List Token) → headings_of.IsFormed b → Agree 1 ts (texts (headings_of.marks b) ++ more)
    → Made (both (titles_of the.Two) costs_of) costed b
costed_back ts e (task, None) more f a = absurd (false≢true (sym e ∙ Agree-heads (is the.One) ts _ a))
costed_back ts e (task, Some c) more f a = record { from = (task, c); formed = f; is = refl }

heading_part : Part headings_of Any heading
unfolding heading
heading_part = record {
  reads = λ n ts. either (begins the.One ts)
      (λ e. made_by (record { marks = λ _ _. refl; formed = λ _ f. (f, tt); bare = λ _. refl }) ((title_part the.One).reads n ts) (λ b more f s a. uncosted_back ts e b more f a))
      (λ e. made_by (record { marks = λ _ _. refl; formed = λ _ f. f; bare = λ _. refl }) (then ((title_part the.Two).reads n ts) (keyed_part the.Cost count_part))
      (λ b more f s a. costed_back ts e b more f a));
  value = (some_name, None);
  formed = (refl, tt);
}

regroup : (a b c d e g : Mark) (xs cs es : List Mark) → a ∷ b ∷ c ∷ d ∷ (xs ++ (e ∷ g ∷ (cs ++ es))) ≡ ((((a ∷ b ∷ c ∷ d ∷ xs) ++ e ∷ []) ++ g ∷ []) ++ cs) ++ es
regroup a b c d e g xs cs es = simp append_assoc

pub plan_part : Part plans Any plan
unfolding plan
plan_part = record {
  reads = λ n ts. made_all
      (record {
        marks = λ a _. regroup (fixed the.Plan) (spell.version a.0.0.0.0.1.1) (fixed the.Task) (named a.0.0.0.0.1.0) (fixed the.Actions) (spell.count a.0.0.1) (spell.cost a.0.0.0.0.1.1)
            (flat_map spell.call a.0.1) (fixed the.End ∷ []);
        formed = λ _ f. (f.0.0.0.0.1.0, f.0.0.0.0.1.1, f.0.0.1, f.0.1);
        bare = λ _. refl;
      })
      (λ b f. record { from = (((((0, (b.task, b.cost)), 0), b.count), b.calls), 0); formed = (((((tt, (f.0, f.1)), tt), f.2), f.3), tt); is = refl })
      (pair (then (then (then (then (plain_reads the.Plan n ts) heading_part) (plain_part the.Actions)) count_part) calls_part) (plain_part the.End) (λ _ _ _ _. refl));
  value = record { task = some_name; cost = None; count = 0; calls = [] };
  formed = (refl, tt, omega arith, tt);
}

pub plan_outcome : (ts : List Token) → Outcome plans IsEmpty 0 ts (whole plan 0 ts)
plan_outcome ts = whole_outcome plan_part tt ts

-- ---- no formula stands in a plan file

behind_flat : (ns : List Name) → Flat (behind the.Comma (map (λ n. named n ∷ []) ns))
behind_flat [] = tt
behind_flat (n ∷ ns) = (refl, (refl, behind_flat ns))

arguments_flat : (ns : List Name) → Flat (spell.arguments ns)
arguments_flat [] = tt
arguments_flat (n ∷ ns) = (refl, (refl, flat_append (behind the.Comma (map (λ n. named n ∷ []) ns)) (fixed the.CloseParen ∷ []) (behind_flat ns) (refl, tt)))

calls_flat : (cs : List CallTree) → Flat (flat_map spell.call cs)
calls_flat [] = tt
calls_flat (c ∷ cs) = flat_append (spell.call c) (flat_map spell.call cs) (refl, arguments_flat c.args) (calls_flat cs)

version_flat : (cost : Option ℕ) → Flat (spell.version cost ∷ [])
version_flat None = (refl, tt)
version_flat (Some n) = (refl, tt)

cost_flat : (cost : Option ℕ) → Flat (spell.cost cost)
cost_flat None = tt
cost_flat (Some n) = (refl, (refl, tt))

plan_flat : (p : PlanTree) → Flat (spell.plan p)
plan_flat p = (
  refl,
  (
    (version_flat p.cost).0,
    (refl, (refl, flat_append (spell.cost p.cost) _ (cost_flat p.cost) (refl, (refl, flat_append (flat_map spell.call p.calls) (fixed the.End ∷ []) (calls_flat p.calls) (refl, tt))))),
  ),
)

pub plan_shallow : (p : PlanTree) → IsShallow (spell.plan p)
plan_shallow p = flat_shallow (spell.plan p) (plan_flat p)

pub none_deep : (ts : List Token) (t : ℕ) → IsDeep plans ts t → ⊥
none_deep ts t d =
    let o = d.always d.viable.tree d.viable.more d.viable.formed d.viable.spelled in
    let n = flat_none (spell.plan d.viable.tree) t (plan_flat d.viable.tree) in
    cc

pub no_depth_fault : (bytes : List ℕ) (token line : ℕ) (r : Result (ParsedText PlanTree) TextError) → IfErr r (OrWant error.OutOfMemory (IsTextFault plans bytes))
    → r ≡ Err (error.TooDeep token line) → ⊥
no_depth_fault bytes token line r fault e =
    by_fault (subst (λ z. IfErr z (OrWant error.OutOfMemory (IsTextFault plans bytes))) e fault)
  where
    by_fault : (error.TooDeep token line ≡ error.OutOfMemory) ⊎ IsDepthFault plans bytes token line → ⊥
    by_fault (inl want) = cc
    by_fault (inr deep) = none_deep (spellings bytes deep.found.tokens) token deep.fault.deep
