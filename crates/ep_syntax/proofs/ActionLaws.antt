-- The laws of the readers of actions.
use Rattle.std.proofs.Common.{◌≡◌, ℕ, Bool, true, false, List, [], ◌∷◌, ◌++◌, map, Option, Some, None, IfSome, refl, sym, ap, ◌∙◌, subst, arith, append_assoc, lit≤, lit<}
use Rattle.std.specs.List.{flat_map}
use Rattle.std.proofs.lemmas.Bool.{false≢true}
use Rattle.ep_bounds.specs.declared.bounds.TheConstants.{MOST_COST}
use Rattle.ep_tree.specs.declared.terminal.Terminal.{Terminal}
use Rattle.ep_tree.specs.declared.terminal.Terminal.TheVariants as the
use Rattle.ep_tree.specs.declared.tree.Name.{Name}
use Rattle.ep_tree.specs.declared.tree.GroupTree.{GroupTree}
use Rattle.ep_tree.specs.declared.tree.LinkTree.{LinkTree}
use Rattle.ep_tree.specs.declared.tree.SetTree.{SetTree}
use Rattle.ep_tree.specs.declared.tree.EventTree.{EventTree}
use Rattle.ep_tree.specs.declared.tree.BodyTree.{BodyTree}
use Rattle.ep_tree.specs.declared.tree.BodyTree.TheVariants.{Announce, Private, Sense, Assign, Events}
use Rattle.ep_tree.specs.declared.tree.SchemaTree.{SchemaTree}
use Rattle.ep_tree.specs.declared.tree.FormulaTree.{FormulaTree}
use Rattle.ep_tree.specs.declared.tree.FormulaTree.TheVariants as tree
use Rattle.ep_tree.specs.Bare.{bare_param, bare_set, bare_event, bare_body, bare_schema}
use Rattle.ep_tree.specs.Formed.{IsFormedSet, IsFormedEvent, IsFormedBody, IsFormedSignature, IsFormedCost, IsFormedSchema}
use Rattle.ep_tree.specs.Grammar.{Grammar}
use Rattle.ep_tree.specs.Marks.{fixed, named, texts}
use Rattle.ep_reader.specs.Reading.{Token, seq, begins, heads, key, each, count_within}
use Rattle.ep_tree.specs.Terminals.{is}
use Rattle.ep_tree.specs.Spelling as spell
use Rattle.ep_tree.specs.Terminals.{text_of}
use Rattle.ep_syntax.specs.FormulaReading.{params}
use Rattle.ep_syntax.specs.TaskReading.{set, sets, event, private_of, private_message, sense_of, sensing, assign_of, assignment, events_of, events, body, distinct, Signature, signature, cost, schema}
use Rattle.ep_syntax.proofs.AtomLaws.{atom_part, some_atom, groups_one, group_part, params_of, params_part}
use Rattle.ep_syntax.proofs.InitialLaws.{outer_one, outer_part, before, statement_part, links_of, links_part, designated_of, designated_part}
use Rattle.ep_syntax.proofs.Layers.{some_formula}
use Rattle.ep_reader.proofs.CallerLemmas.{Agree, Follow, IsSame, both, Made, Agree-heads, each_of, each_part, some_each_of, some_each_part, Reads, Part, Any, Lacks, Next, pair, then, made_by, made_all, either, next_lacks, plain, plain_reads, plain_part, name_part, some_name, within_of, within_part, made-id, braced_of, braced_part, named_entries_part, both_true, IsOptional, optional_part, IsFlag, flag_part, counts_within, count_within_part}

-- ---- sets and events

abbrev sets_one : Grammar SetTree
sets_one = record { marks = spell.set; IsFormed = IsFormedSet; bare = bare_set }

set_part : Part sets_one Any set
unfolding set
set_part = record {
  reads = λ n ts. made_all (record { marks = λ a _. simp append_assoc; formed = λ _ f. (f.0.0.0, f.0.1); bare = λ _. refl })
      (λ b f. record { from = (((b.atom, 0), b.value), 0); formed = (((f.0, tt), f.1), tt); is = refl })
      (pair (then (pair (atom_part.reads n ts) (plain_part the.Becomes) (λ _ _ _ _. refl)) outer_part) (plain_part the.Semicolon) (λ _ _ _ _. refl));
  value = record { atom = some_atom; value = tree.True 0 };
  formed = (refl, some_formula);
}

abbrev sets_of : Grammar (List SetTree)
sets_of = braced_of (each_of sets_one)

sets_part : {F : Follow} → Part sets_of F sets
sets_part = named_entries_part set_part (λ a more f. (both_true _ _ f.0).0)

abbrev events_one : Grammar EventTree
events_one = record { marks = spell.event; IsFormed = IsFormedEvent; bare = bare_event }

event_part : Part events_one Any event
unfolding event
event_part = record {
  reads = λ n ts. made_all (record { marks = λ _ _. refl; formed = λ _ f. (f.0.0.0.1, f.0.1, f.1); bare = λ _. refl })
      (λ b f. record { from = ((((0, b.name), 0), b.pre), b.sets); formed = ((((tt, f.0), tt), f.1), f.2); is = refl })
      (pair (then (then (then (plain_reads the.Event n ts) name_part) (plain_part the.Pre)) outer_part) sets_part (λ _ _ _ _. refl));
  value = record { name = some_name; pre = tree.True 0; sets = [] };
  formed = (refl, some_formula, tt);
}

-- ---- bodies

abbrev bodies_of : Grammar BodyTree
bodies_of = record { marks = spell.body; IsFormed = IsFormedBody; bare = bare_body }

-- what a body begins with
abbrev body_first : BodyTree → Terminal
body_first (Announce what) = the.Announce
body_first (Private what g) = the.Private
body_first (Sense what g) = the.Sense
body_first (Assign guard ss) = the.Assign
body_first (Events es ns ls) = the.Event

body_begins : (b : BodyTree) (ts more : List Token) → IsFormedBody b → Agree 1 ts (texts (spell.body b) ++ more) → (test : Token → Bool) → heads test ts ≡ test (text_of (body_first b))
body_begins (Announce what) ts more f a test = Agree-heads test ts _ a
body_begins (Private what g) ts more f a test = Agree-heads test ts _ a
body_begins (Sense what g) ts more f a test = Agree-heads test ts _ a
body_begins (Assign guard ss) ts more f a test = Agree-heads test ts _ a
body_begins (Events [] ns ls) ts more f a test = absurd f.0
body_begins (Events (e ∷ es) ns ls) ts more f a test = Agree-heads test ts _ a

-- the terminal is seen, and the body begins with another
sees_other : (t : Terminal) (b : BodyTree) (ts more : List Token) → begins t ts ≡ true → IsFormedBody b → Agree 1 ts (texts (spell.body b) ++ more) → is t (text_of (body_first b)) ≡ false → ⊥
sees_other t b ts more e f a d = false≢true (sym d ∙ sym (body_begins b ts more f a (is t)) ∙ e)

-- the terminal is not seen, and the body begins with it
sees_none : (t : Terminal) (b : BodyTree) (ts more : List Token) → begins t ts ≡ false → IsFormedBody b → Agree 1 ts (texts (spell.body b) ++ more) → is t (text_of (body_first b)) ≡ true → ⊥
sees_none t b ts more e f a d = false≢true (sym e ∙ body_begins b ts more f a (is t) ∙ d)

announce_back : (ts : List Token) → begins the.Announce ts ≡ true → (b : BodyTree) (more : List Token) → IsFormedBody b → Next the.CloseBrace more → Agree 1 ts (texts (spell.body b) ++ more)
    → Made (within_of the.Announce outer_one the.Semicolon) Announce b
announce_back ts e (Announce what) more f s a = record { from = what; formed = f; is = refl }
announce_back ts e (Private what g) more f s a = absurd (sees_other the.Announce (Private what g) ts more e f a refl)
announce_back ts e (Sense what g) more f s a = absurd (sees_other the.Announce (Sense what g) ts more e f a refl)
announce_back ts e (Assign guard ss) more f s a = absurd (sees_other the.Announce (Assign guard ss) ts more e f a refl)
announce_back ts e (Events es ns ls) more f s a = absurd (sees_other the.Announce (Events es ns ls) ts more e f a refl)

abbrev private_shape : Grammar ((FormulaTree × GroupTree) × ℕ)
private_shape = both (both (within_of the.Private outer_one the.To) groups_one) (plain the.Semicolon)

private_back : (ts : List Token) → begins the.Private ts ≡ true → (b : BodyTree) (more : List Token) → IsFormedBody b → Next the.CloseBrace more → Agree 1 ts (texts (spell.body b) ++ more)
    → Made private_shape private_of b
private_back ts e (Private what g) more f s a = record { from = ((what, g), 0); formed = (f, tt); is = refl }
private_back ts e (Announce what) more f s a = absurd (sees_other the.Private (Announce what) ts more e f a refl)
private_back ts e (Sense what g) more f s a = absurd (sees_other the.Private (Sense what g) ts more e f a refl)
private_back ts e (Assign guard ss) more f s a = absurd (sees_other the.Private (Assign guard ss) ts more e f a refl)
private_back ts e (Events es ns ls) more f s a = absurd (sees_other the.Private (Events es ns ls) ts more e f a refl)

abbrev sense_shape : Grammar ((FormulaTree × GroupTree) × ℕ)
sense_shape = both (both (within_of the.Sense outer_one the.By) groups_one) (plain the.Semicolon)

sense_back : (ts : List Token) → begins the.Sense ts ≡ true → (b : BodyTree) (more : List Token) → IsFormedBody b → Next the.CloseBrace more → Agree 1 ts (texts (spell.body b) ++ more)
    → Made sense_shape sense_of b
sense_back ts e (Sense what g) more f s a = record { from = ((what, g), 0); formed = (f, tt); is = refl }
sense_back ts e (Announce what) more f s a = absurd (sees_other the.Sense (Announce what) ts more e f a refl)
sense_back ts e (Private what g) more f s a = absurd (sees_other the.Sense (Private what g) ts more e f a refl)
sense_back ts e (Assign guard ss) more f s a = absurd (sees_other the.Sense (Assign guard ss) ts more e f a refl)
sense_back ts e (Events es ns ls) more f s a = absurd (sees_other the.Sense (Events es ns ls) ts more e f a refl)

abbrev assign_shape : Grammar (((ℕ × ℕ) × FormulaTree) × List SetTree)
assign_shape = both (both (both (plain the.Assign) (plain the.When)) outer_one) sets_of

assign_back : (ts : List Token) → begins the.Assign ts ≡ true → (b : BodyTree) (more : List Token) → IsFormedBody b → Next the.CloseBrace more → Agree 1 ts (texts (spell.body b) ++ more)
    → Made assign_shape assign_of b
assign_back ts e (Assign guard ss) more f s a = record { from = (((0, 0), guard), ss); formed = (((tt, tt), f.0), f.1); is = refl }
assign_back ts e (Announce what) more f s a = absurd (sees_other the.Assign (Announce what) ts more e f a refl)
assign_back ts e (Private what g) more f s a = absurd (sees_other the.Assign (Private what g) ts more e f a refl)
assign_back ts e (Sense what g) more f s a = absurd (sees_other the.Assign (Sense what g) ts more e f a refl)
assign_back ts e (Events es ns ls) more f s a = absurd (sees_other the.Assign (Events es ns ls) ts more e f a refl)

abbrev events_shape : Grammar ((List EventTree × List Name) × List LinkTree)
events_shape = both (both (some_each_of events_one) designated_of) links_of

events_back : (ts : List Token) → begins the.Announce ts ≡ false → begins the.Private ts ≡ false → begins the.Sense ts ≡ false → begins the.Assign ts ≡ false
    → (b : BodyTree) (more : List Token) → IsFormedBody b → Next the.CloseBrace more → Agree 1 ts (texts (spell.body b) ++ more) → Made events_shape events_of b
events_back ts d1 d2 d3 d4 (Events es ns ls) more f s a = record { from = ((es, ns), ls); formed = ((f.0, f.1), f.2); is = refl }
events_back ts d1 d2 d3 d4 (Announce what) more f s a = absurd (sees_none the.Announce (Announce what) ts more d1 f a refl)
events_back ts d1 d2 d3 d4 (Private what g) more f s a = absurd (sees_none the.Private (Private what g) ts more d2 f a refl)
events_back ts d1 d2 d3 d4 (Sense what g) more f s a = absurd (sees_none the.Sense (Sense what g) ts more d3 f a refl)
events_back ts d1 d2 d3 d4 (Assign guard ss) more f s a = absurd (sees_none the.Assign (Assign guard ss) ts more d4 f a refl)

module _ (n : ℕ) (ts : List Token) where
  private_reads : begins the.Private ts ≡ true → Reads bodies_of (Next the.CloseBrace) n ts (private_message n ts)
  unfolding private_message
  private_reads e = made_by (record { marks = λ a _. simp append_assoc; formed = λ _ f. f.0; bare = λ _. refl })
      (then (then ((within_part the.Private the.To (before the.To refl)).reads n ts) group_part) (plain_part the.Semicolon)) (private_back ts e)

  sense_reads : begins the.Sense ts ≡ true → Reads bodies_of (Next the.CloseBrace) n ts (sensing n ts)
  unfolding sensing
  sense_reads e = made_by (record { marks = λ a _. simp append_assoc; formed = λ _ f. f.0; bare = λ _. refl })
      (then (then ((within_part the.Sense the.By (before the.By refl)).reads n ts) group_part) (plain_part the.Semicolon)) (sense_back ts e)

  assign_reads : begins the.Assign ts ≡ true → Reads bodies_of (Next the.CloseBrace) n ts (assignment n ts)
  unfolding assignment
  assign_reads e = made_by (record { marks = λ _ _. refl; formed = λ _ f. (f.0.1, f.1); bare = λ _. refl })
      (pair (then (then (plain_reads the.Assign n ts) (plain_part the.When)) outer_part) sets_part (λ _ _ _ _. refl)) (assign_back ts e)

  events_reads : begins the.Announce ts ≡ false → begins the.Private ts ≡ false → begins the.Sense ts ≡ false → begins the.Assign ts ≡ false
      → Reads bodies_of (Next the.CloseBrace) n ts (events n ts)
  unfolding events
  events_reads d1 d2 d3 d4 =
      let some_events = some_each_part (is the.Event) events_one Any (Next the.Designated) event event_part (λ _ _ _. refl) (λ _ _ _. tt) (λ _ _. tt) (next_lacks the.Designated (is the.Event) refl) in
      made_by (record { marks = λ a _. sym (append_assoc (flat_map spell.event a.0.0) (spell.designated a.0.1) (flat_map spell.link a.1)); formed = λ _ f. (f.0.0, f.0.1, f.1); bare = λ _. refl })
      (then (pair (some_events.reads n ts) designated_part (λ _ _ _ _. refl)) links_part) (events_back ts d1 d2 d3 d4)

body_part : Part bodies_of (Next the.CloseBrace) body
unfolding body
body_part = record {
  reads = λ n ts. either (begins the.Announce ts)
      (λ e. made_by (record { marks = λ _ _. refl; formed = λ _ f. f; bare = λ _. refl }) ((statement_part the.Announce).reads n ts) (announce_back ts e))
      (λ d1. either (begins the.Private ts) (private_reads n ts)
      (λ d2. either (begins the.Sense ts) (sense_reads n ts)
      (λ d3. either (begins the.Assign ts) (assign_reads n ts)
      (λ d4. events_reads n ts d1 d2 d3 d4))));
  value = Announce (tree.True 0);
  formed = some_formula;
}

-- ---- parameters, and whether their values are distinct

abbrev distinct_of : Grammar Bool
distinct_of = record { marks = spell.distinct; IsFormed = λ _. Unit {0}; bare = λ b. b }

-- neither parameters nor `distinct` begin here
abbrev NoSignature : Follow
NoSignature ts = Lacks (is the.OpenParen) ts × Lacks (is the.Distinct) ts

distinct_flag : IsFlag the.Distinct (plain the.Distinct) distinct_of
distinct_flag = record { no = refl; yes = λ _. refl; starts = λ _. refl; formed = λ _. tt; bare = λ _. refl }

distinct_part : Part distinct_of NoSignature distinct
unfolding distinct
distinct_part = flag_part the.Distinct (plain the.Distinct) distinct_of distinct_flag NoSignature (key the.Distinct) (plain_part the.Distinct) (λ _ s. s.1)

abbrev signatures_of : Grammar Signature
signatures_of = record { marks = λ s. spell.signature s.0 s.1; IsFormed = λ s. IsFormedSignature s.0 s.1; bare = λ s. (map bare_param s.0, s.1) }

signature_none : (ts : List Token) → begins the.OpenParen ts ≡ false → (b : Signature) (more : List Token) → IsFormedSignature b.0 b.1 → Agree 1 ts (texts (spell.signature b.0 b.1) ++ more) → IsSame signatures_of ([], false) b
signature_none ts e ([], d) more f a = record { bare = ap (λ z. ([], z)) (sym f); outlines = refl }
signature_none ts e (p ∷ ps, d) more f a = absurd (false≢true (sym e ∙ Agree-heads (is the.OpenParen) ts _ a))

signature_back : (ts : List Token) → begins the.OpenParen ts ≡ true → (b : Signature) (more : List Token) → IsFormedSignature b.0 b.1 → NoSignature more → Agree 1 ts (texts (spell.signature b.0 b.1) ++ more)
    → Made (both params_of distinct_of) (λ s. s) b
signature_back ts e ([], d) more f s a = absurd (false≢true (sym s.0 ∙ sym (Agree-heads (is the.OpenParen) ts more a) ∙ e))
signature_back ts e (p ∷ ps, d) more f s a = record { from = (p ∷ ps, d); formed = (f, tt); is = refl }

signature_marks : (s : Signature) → (both params_of distinct_of).IsFormed s → spell.signature s.0 s.1 ≡ (both params_of distinct_of).marks s
signature_marks ([], d) f = absurd f.0
signature_marks (p ∷ ps, d) f = ap (λ z. fixed the.OpenParen ∷ z) (sym (append_assoc (spell.params (p ∷ ps)) (fixed the.CloseParen ∷ []) (spell.distinct d)))

signature_formed : (s : Signature) → (both params_of distinct_of).IsFormed s → IsFormedSignature s.0 s.1
signature_formed ([], d) f = absurd f.0
signature_formed (p ∷ ps, d) f = f.0

signature_part : Part signatures_of NoSignature signature
unfolding signature
signature_part = record {
  reads = λ n ts. either (begins the.OpenParen ts)
      (λ e.
      subst (λ r. Reads signatures_of NoSignature n ts r) (made-id (seq (params n ts) distinct))
      (made_by (record { marks = signature_marks; formed = signature_formed; bare = λ _. refl }) (then (params_part.reads n ts) distinct_part) (signature_back ts e)))
      (λ e. record { holds = record { text = refl; at = omega arith; placed = tt; formed = refl; shallow = tt; only = λ b more f s a. signature_none ts e b more f a } });
  value = ([], false);
  formed = refl;
}

-- ---- costs

abbrev costs_of : Grammar (Option ℕ)
costs_of = record { marks = spell.cost; IsFormed = λ o. IfSome o IsFormedCost; bare = λ o. o }

costs_optional : IsOptional the.Cost (counts_within 1 MOST_COST) costs_of
costs_optional = record { nothing = refl; something = λ _. refl; none_formed = tt; some_formed = λ _ f. f; formed_some = λ _ f. f; none_bare = refl; some_bare = λ _. refl }

cost_part : Part costs_of (Next the.OpenBrace) cost
unfolding cost
cost_part = optional_part the.Cost (counts_within 1 MOST_COST) costs_of costs_optional (Next the.OpenBrace) (count_within 1 MOST_COST) (count_within_part 1 MOST_COST (lit≤ tt) (lit< tt))
    (next_lacks the.OpenBrace (is the.Cost) refl)

-- ---- actions

abbrev schemas_one : Grammar SchemaTree
schemas_one = record { marks = spell.schema; IsFormed = IsFormedSchema; bare = bare_schema }

behind_signature : (c : Option ℕ) (after : List Token) → IfSome c IsFormedCost → Next the.OpenBrace after → NoSignature (texts (spell.cost c) ++ after)
behind_signature None after f s = (next_lacks the.OpenBrace (is the.OpenParen) refl after s, next_lacks the.OpenBrace (is the.Distinct) refl after s)
behind_signature (Some n) after f s = (refl, refl)

schema_part : Part schemas_one Any schema
unfolding schema
schema_part = record {
  reads = λ n ts. made_all
      (record {
        marks = λ a _. ap (λ z. fixed the.Action ∷ named a.0.0.0.1 ∷ z) (sym (append_assoc (spell.signature a.0.0.1.0 a.0.0.1.1) (spell.cost a.0.1) (spell.braced (spell.body a.1))));
        formed = λ _ f. (f.0.0.0.1, f.0.0.1, f.0.1, f.1);
        bare = λ _. refl;
      })
      (λ b f. record { from = ((((0, b.name), (b.params, b.distinct)), b.cost), b.body); formed = ((((tt, f.0), f.1), f.2), f.3); is = refl })
      (pair (pair (then (then (plain_reads the.Action n ts) name_part) signature_part) cost_part behind_signature) (braced_part body_part) (λ _ _ _ _. refl));
  value = record { name = some_name; params = []; distinct = false; cost = None; body = Announce (tree.True 0) };
  formed = (refl, refl, tt, some_formula);
}

abbrev pub schemas_of : Grammar (List SchemaTree)
schemas_of = each_of schemas_one

pub schemas_part : Part schemas_of (Next the.Goal) (each (is the.Action) schema)
schemas_part = each_part (is the.Action) schemas_one Any (Next the.Goal) schema schema_part (λ _ _ _. refl) (λ _ _ _. tt) (λ _ _. tt) (next_lacks the.Goal (is the.Action) refl)
