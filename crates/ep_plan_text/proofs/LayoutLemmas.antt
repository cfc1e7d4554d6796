-- The text of a plan splits into the tokens of its tree.
use Rattle.std.proofs.Common.{◌≡◌, ℕ, ◌+◌, ◌*◌, ◌^◌, ◌≤◌, ◌<◌, true, ◌&&◌, List, [], ◌∷◌, ◌++◌, length, map, Option, Some, None, refl, sym, ap, ◌∙◌, subst, arith, append_assoc, length-append}
use Rattle.std.specs.Prelude.{codes, nat_le}
use Rattle.std.specs.Fmt.{decimal}
use Rattle.std.specs.List.{AllByRecursion, flat_map, join_with_byte, list_all}
use Rattle.std.proofs.lemmas.Bool.{leb-true}
use Rattle.std.proofs.lemmas.Fmt.{length-decimal-le}
use Rattle.std.proofs.lemmas.List.Concat.{flat_map-append}
use Rattle.ep_bounds.specs.declared.bounds.Measure.{Measure}
use Rattle.ep_bounds.specs.declared.bounds.Measure.TheVariants.{Length, Cost}
use Rattle.ep_lex.specs.declared.token.TokenKind.TheVariants as kind
use Rattle.ep_lex.specs.declared.token.PieceKind.{PieceKind}
use Rattle.ep_lex.specs.declared.token.PieceKind.TheVariants.{Blank, Comment, Spelling}
use Rattle.ep_lex.specs.Pieces.{is_letter, is_word_byte, is_piece, ends, Piece, Split}
use Rattle.ep_lex.proofs.CallerLemmas.{texts_of}
use Rattle.ep_name.specs.Names.{printed}
use Rattle.ep_tree.specs.declared.terminal.Terminal.TheVariants as the
use Rattle.ep_tree.specs.declared.tree.Name.{Name}
use Rattle.ep_tree.specs.declared.tree.CallTree.{CallTree}
use Rattle.ep_tree.specs.declared.tree.PlanTree.{PlanTree}
use Rattle.ep_tree.specs.Formed.{IsFormedName, IsFormedCall}
use Rattle.ep_tree.specs.Marks.{Mark, fixed, named, texts}
use Rattle.ep_tree.specs.Spelling as spell
use Rattle.ep_tree.specs.Spelling.{behind}
use Rattle.ep_tree.specs.Terminals.{is_name}
use Rattle.ep_reader.proofs.CallerLemmas.{written_count, both_then, both_true}
use Rattle.ep_tree.proofs.CallerLemmas.{texts-append}
use Rattle.ep_types.specs.Atoms.{texts as name_texts}
use Rattle.ep_types.specs.Names.{Text}
use Rattle.ep_plan_text.specs.declared.print.Mark.{Mark as PlanMark}
use Rattle.ep_plan_text.specs.declared.print.Mark.TheVariants.{Plain, Least, Found}
use Rattle.ep_plan_text.specs.Calls.{name_of}
use Rattle.ep_base.specs.Texts.{line, lines}
use Rattle.ep_plan_text.specs.PlanText.{version_line, least_line, mark_lines, cost_lines}

-- a piece at the front
step : (k : PieceKind) (text rest : List ℕ) (ps : List Piece) → is_piece k text ≡ true → ends k text rest ≡ true → Split rest ps → Split (text ++ rest) (record { kind = k; text = text } ∷ ps)
step k text rest ps p e s = (rest, refl, p, e, s)

abbrev word : Text → Piece
word text = record { kind = Spelling kind.Word; text = text }

abbrev number : Text → Piece
number text = record { kind = Spelling kind.Number; text = text }

abbrev mark : ℕ → Piece
mark b = record { kind = Spelling kind.Mark; text = b ∷ [] }

abbrev blank : ℕ → Piece
blank b = record { kind = Blank; text = b ∷ [] }

name_is : (n : Name) → IsFormedName n → is_piece (Spelling kind.Word) n.text ≡ true
name_is n f = (both_true _ _ f).0

-- ---- the objects of a call, behind the parenthesis

-- an object and those behind it, the parenthesis, a line feed and the rest
abbrev objects_then : Text → List Name → List ℕ → List ℕ
objects_then o [] rest = o ++ 41 ∷ 10 ∷ rest
objects_then o (n ∷ ns) rest = o ++ 44 ∷ objects_then n.text ns rest

abbrev object_pieces : Text → List Name → List Piece → List Piece
object_pieces o [] ps = word o ∷ mark 41 ∷ blank 10 ∷ ps
object_pieces o (n ∷ ns) ps = word o ∷ mark 44 ∷ object_pieces n.text ns ps

objects_split : (o : Name) (ns : List Name) (rest : List ℕ) (ps : List Piece) → IsFormedName o → AllByRecursion IsFormedName ns → Split rest ps → Split (objects_then o.text ns rest) (object_pieces o.text ns ps)
objects_split o [] rest ps f g s =
    step (Spelling kind.Word) o.text (41 ∷ 10 ∷ rest) (mark 41 ∷ blank 10 ∷ ps) (name_is o f) refl
    (step (Spelling kind.Mark) (41 ∷ []) (10 ∷ rest) (blank 10 ∷ ps) refl refl (step Blank (10 ∷ []) rest ps refl refl s))
objects_split o (n ∷ ns) rest ps f g s =
    step (Spelling kind.Word) o.text (44 ∷ objects_then n.text ns rest) (mark 44 ∷ object_pieces n.text ns ps) (name_is o f) refl
    (step (Spelling kind.Mark) (44 ∷ []) (objects_then n.text ns rest) (object_pieces n.text ns ps) refl refl (objects_split n ns rest ps g.0 g.1 s))

abbrev one : Name → List Mark
one n = named n ∷ []

object_texts : (o : Name) (ns : List Name) (ps : List Piece) → texts_of (object_pieces o.text ns ps) ≡ o.text ∷ (texts (behind the.Comma (map one ns) ++ fixed the.CloseParen ∷ []) ++ texts_of ps)
object_texts o [] ps = refl
object_texts o (n ∷ ns) ps = ap (λ z. o.text ∷ (44 ∷ []) ∷ z) (object_texts n ns ps)

-- ---- calls

-- the name and the objects of a call, a line feed and the rest
abbrev args_then : Text → List Name → List ℕ → List ℕ
args_then n [] rest = n ++ 10 ∷ rest
args_then n (o ∷ ns) rest = n ++ 40 ∷ objects_then o.text ns rest

abbrev args_pieces : Text → List Name → List Piece → List Piece
args_pieces n [] ps = word n ∷ blank 10 ∷ ps
args_pieces n (o ∷ ns) ps = word n ∷ mark 40 ∷ object_pieces o.text ns ps

args_split : (n : Name) (ns : List Name) (rest : List ℕ) (ps : List Piece) → IsFormedName n → AllByRecursion IsFormedName ns → Split rest ps → Split (args_then n.text ns rest) (args_pieces n.text ns ps)
args_split n [] rest ps f g s = step (Spelling kind.Word) n.text (10 ∷ rest) (blank 10 ∷ ps) (name_is n f) refl (step Blank (10 ∷ []) rest ps refl refl s)
args_split n (o ∷ ns) rest ps f g s =
    step (Spelling kind.Word) n.text (40 ∷ objects_then o.text ns rest) (mark 40 ∷ object_pieces o.text ns ps) (name_is n f) refl
    (step (Spelling kind.Mark) (40 ∷ []) (objects_then o.text ns rest) (object_pieces o.text ns ps) refl refl (objects_split o ns rest ps g.0 g.1 s))

args_texts : (n : Name) (ns : List Name) (ps : List Piece) → texts_of (args_pieces n.text ns ps) ≡ n.text ∷ (texts (spell.arguments ns) ++ texts_of ps)
args_texts n [] ps = refl
args_texts n (o ∷ ns) ps = ap (λ z. n.text ∷ (40 ∷ []) ∷ z) (object_texts o ns ps)

join_then : (o : Name) (ns : List Name) (rest : List ℕ) → join_with_byte 44 (o.text ∷ name_texts ns) ++ 41 ∷ 10 ∷ rest ≡ objects_then o.text ns rest
join_then o [] rest = refl
join_then o (n ∷ ns) rest =
    append_assoc o.text (44 ∷ join_with_byte 44 (n.text ∷ name_texts ns)) (41 ∷ 10 ∷ rest) ∙ ap (λ z. o.text ++ 44 ∷ z) (join_then n ns rest)

line-printed : (n : Text) (ns : List Name) (rest : List ℕ) → line (printed n (name_texts ns)) ++ rest ≡ args_then n ns rest
line-printed n [] rest = append_assoc n (10 ∷ []) rest
line-printed n (o ∷ ns) rest =
    let J = join_with_byte 44 (o.text ∷ name_texts ns) in
    append_assoc ((n ++ 40 ∷ J) ++ 41 ∷ []) (10 ∷ []) rest
    ∙ append_assoc (n ++ 40 ∷ J) (41 ∷ []) (10 ∷ rest)
    ∙ append_assoc n (40 ∷ J) (41 ∷ 10 ∷ rest)
    ∙ ap (λ z. n ++ 40 ∷ z) (join_then o ns rest)

abbrev call_pieces : List CallTree → List Piece → List Piece
call_pieces [] ps = ps
call_pieces (c ∷ cs) ps = args_pieces c.name.text c.args (call_pieces cs ps)

calls_split : (cs : List CallTree) (rest : List ℕ) (ps : List Piece) → AllByRecursion IsFormedCall cs → Split rest ps → Split (lines (map name_of cs) ++ rest) (call_pieces cs ps)
calls_split [] rest ps f s = s
calls_split (c ∷ cs) rest ps f s =
    let others = lines (map name_of cs) in
    subst (λ z. Split z (call_pieces (c ∷ cs) ps)) (sym (append_assoc (line (name_of c)) others rest ∙ line-printed c.name.text c.args (others ++ rest)))
    (args_split c.name c.args (others ++ rest) (call_pieces cs ps) f.0.0 f.0.1 (calls_split cs rest ps f.1 s))

calls_texts : (cs : List CallTree) (ps : List Piece) → texts_of (call_pieces cs ps) ≡ texts (flat_map spell.call cs) ++ texts_of ps
calls_texts [] ps = refl
calls_texts (c ∷ cs) ps =
    args_texts c.name c.args (call_pieces cs ps) ∙ ap (λ z. texts (spell.call c) ++ z) (calls_texts cs ps)
    ∙ sym (both_then (spell.call c) (flat_map spell.call cs) (texts_of ps))

-- ---- the first lines

abbrev mark_then : Measure → PlanMark → List ℕ → List ℕ
mark_then measure Plain rest = rest
mark_then measure Least rest = least_line measure ++ 10 ∷ rest
mark_then measure Found rest = codes "# found\n" ++ rest

abbrev comment : Text → Piece
comment text = record { kind = Comment; text = text }

abbrev mark_pieces : Measure → PlanMark → List Piece → List Piece
mark_pieces measure Plain ps = ps
mark_pieces measure Least ps = comment (least_line measure) ∷ blank 10 ∷ ps
mark_pieces measure Found ps = comment (codes "# found") ∷ blank 10 ∷ ps

least_is : (measure : Measure) → is_piece Comment (least_line measure) ≡ true
least_is Length = refl
least_is Cost = refl

mark_split : (measure : Measure) (mk : PlanMark) (rest : List ℕ) (ps : List Piece) → Split rest ps → Split (mark_then measure mk rest) (mark_pieces measure mk ps)
mark_split measure Plain rest ps s = s
mark_split measure Least rest ps s = step Comment (least_line measure) (10 ∷ rest) (blank 10 ∷ ps) (least_is measure) refl (step Blank (10 ∷ []) rest ps refl refl s)
mark_split measure Found rest ps s = step Comment (codes "# found") (10 ∷ rest) (blank 10 ∷ ps) refl refl (step Blank (10 ∷ []) rest ps refl refl s)

mark_texts : (measure : Measure) (mk : PlanMark) (ps : List Piece) → texts_of (mark_pieces measure mk ps) ≡ texts_of ps
mark_texts measure Plain ps = refl
mark_texts measure Least ps = refl
mark_texts measure Found ps = refl

mark-lines : (measure : Measure) (mk : PlanMark) (rest : List Text) → lines (mark_lines measure mk ++ rest) ≡ mark_then measure mk (lines rest)
mark-lines measure Plain rest = refl
mark-lines measure Least rest = append_assoc (least_line measure) (10 ∷ []) (lines rest)
mark-lines measure Found rest = refl

number_is : (n : ℕ) → n < 10 ^ 9 → is_piece (Spelling kind.Number) (decimal n) ≡ true
number_is n l = (both_true _ _ (written_count n l)).0

-- a word and a number
abbrev number_then : Text → ℕ → List ℕ → List ℕ
number_then text n rest = text ++ 32 ∷ (decimal n ++ 10 ∷ rest)

abbrev number_pieces : Text → ℕ → List Piece → List Piece
number_pieces text n ps = word text ∷ blank 32 ∷ number (decimal n) ∷ blank 10 ∷ ps

number_split : (text : Text) (n : ℕ) (rest : List ℕ) (ps : List Piece) → is_piece (Spelling kind.Word) text ≡ true → n < 10 ^ 9 → Split rest ps → Split (number_then text n rest) (number_pieces text n ps)
number_split text n rest ps f l s =
    step (Spelling kind.Word) text (32 ∷ (decimal n ++ 10 ∷ rest)) (blank 32 ∷ number (decimal n) ∷ blank 10 ∷ ps) f refl
    (step Blank (32 ∷ []) (decimal n ++ 10 ∷ rest) (number (decimal n) ∷ blank 10 ∷ ps) refl refl
    (step (Spelling kind.Number) (decimal n) (10 ∷ rest) (blank 10 ∷ ps) (number_is n l) refl (step Blank (10 ∷ []) rest ps refl refl s)))

abbrev cost_then : Measure → ℕ → List ℕ → List ℕ
cost_then Length cost rest = rest
cost_then Cost cost rest = number_then (codes "cost") cost rest

abbrev cost_pieces : Measure → ℕ → List Piece → List Piece
cost_pieces Length cost ps = ps
cost_pieces Cost cost ps = number_pieces (codes "cost") cost ps

cost_split : (measure : Measure) (cost : ℕ) (rest : List ℕ) (ps : List Piece) → cost < 10 ^ 9 → Split rest ps → Split (cost_then measure cost rest) (cost_pieces measure cost ps)
cost_split Length cost rest ps l s = s
cost_split Cost cost rest ps l s = number_split (codes "cost") cost rest ps refl l s

cost-lines : (measure : Measure) (cost : ℕ) (rest : List Text) → lines (cost_lines measure cost ++ rest) ≡ cost_then measure cost (lines rest)
cost-lines Length cost rest = refl
cost-lines Cost cost rest = ap (λ z. codes "cost " ++ z) (append_assoc (decimal cost) (10 ∷ []) (lines rest))

-- the number of the version
abbrev digit : Measure → ℕ
digit Length = 49
digit Cost = 50

abbrev head_then : Measure → Text → List ℕ → List ℕ
head_then measure name rest = codes "plan " ++ digit measure ∷ codes "\ntask " ++ (name ++ 10 ∷ rest)

abbrev head_pieces : Measure → Text → List Piece → List Piece
head_pieces measure name ps = word (codes "plan") ∷ blank 32 ∷ number (digit measure ∷ []) ∷ blank 10 ∷ word (codes "task") ∷ blank 32 ∷ word name ∷ blank 10 ∷ ps

digit_is : (measure : Measure) → is_piece (Spelling kind.Number) (digit measure ∷ []) ≡ true
digit_is Length = refl
digit_is Cost = refl

head_split : (measure : Measure) (name : Text) (rest : List ℕ) (ps : List Piece) → is_name name ≡ true → Split rest ps → Split (head_then measure name rest) (head_pieces measure name ps)
head_split measure name rest ps f s =
    let named = name ++ 10 ∷ rest in
    let here = word name ∷ blank 10 ∷ ps in
    let version = digit measure ∷ [] in
    step (Spelling kind.Word) (codes "plan") (codes " " ++ version ++ codes "\ntask " ++ named) (blank 32 ∷ number version ∷ blank 10 ∷ word (codes "task") ∷ blank 32 ∷ here) refl refl
    (step Blank (32 ∷ []) (version ++ codes "\ntask " ++ named) (number version ∷ blank 10 ∷ word (codes "task") ∷ blank 32 ∷ here) refl refl
    (step (Spelling kind.Number) version (codes "\ntask " ++ named) (blank 10 ∷ word (codes "task") ∷ blank 32 ∷ here) (digit_is measure) refl
    (step Blank (10 ∷ []) (codes "task " ++ named) (word (codes "task") ∷ blank 32 ∷ here) refl refl
    (step (Spelling kind.Word) (codes "task") (codes " " ++ named) (blank 32 ∷ here) refl refl
    (step Blank (32 ∷ []) named here refl refl
    (step (Spelling kind.Word) name (10 ∷ rest) (blank 10 ∷ ps) (both_true _ _ f).0 refl (step Blank (10 ∷ []) rest ps refl refl s)))))))

head-line : (measure : Measure) (rest : List ℕ) → line (version_line measure) ++ rest ≡ codes "plan " ++ digit measure ∷ 10 ∷ rest
head-line Length rest = refl
head-line Cost rest = refl

-- ---- the whole text

abbrev end_pieces : List Piece
end_pieces = word (codes "end") ∷ blank 10 ∷ []

end_split : Split (codes "end\n") end_pieces
end_split = step (Spelling kind.Word) (codes "end") (10 ∷ []) (blank 10 ∷ []) refl refl (step Blank (10 ∷ []) [] [] refl refl refl)

-- the number of the calls, the calls and the end
abbrev tail_then : ℕ → List CallTree → List ℕ
tail_then n cs = number_then (codes "actions") n (lines (map name_of cs) ++ codes "end\n")

abbrev tail_pieces : ℕ → List CallTree → List Piece
tail_pieces n cs = number_pieces (codes "actions") n (call_pieces cs end_pieces)

abbrev pub tail_lines : ℕ → List Text → List Text
tail_lines n names = (codes "actions " ++ decimal n) ∷ (names ++ codes "end" ∷ [])

lines-tail : (n : ℕ) (cs : List CallTree) → lines (tail_lines n (map name_of cs)) ≡ tail_then n cs
lines-tail n cs =
    let names = map name_of cs in
    ap (λ z. codes "actions " ++ z) (append_assoc (decimal n) (10 ∷ []) (lines (names ++ codes "end" ∷ [])))
    ∙ ap (λ z. number_then (codes "actions") n z) (flat_map-append line names (codes "end" ∷ []))

tail_split : (n : ℕ) (cs : List CallTree) → n < 10 ^ 9 → AllByRecursion IsFormedCall cs → Split (tail_then n cs) (tail_pieces n cs)
tail_split n cs l g =
    number_split (codes "actions") n (lines (map name_of cs) ++ codes "end\n") (call_pieces cs end_pieces) refl l (calls_split cs (codes "end\n") end_pieces g end_split)

-- what stands above the calls
pub record Heading : Type 0 where
  pub measure : Measure
  pub mark : PlanMark
  pub name : Name
  pub cost : ℕ

-- the name is one, and the cost is one that is read
pub record IsFormedHeading (h : Heading) : Type 0 where
  pub name : is_name h.name.text ≡ true
  pub cost : h.cost < 10 ^ 9

abbrev pub whole_pieces : Heading → ℕ → List CallTree → List Piece
whole_pieces h n cs = head_pieces h.measure h.name.text (mark_pieces h.measure h.mark (cost_pieces h.measure h.cost (tail_pieces n cs)))

abbrev whole_then : Heading → ℕ → List CallTree → List ℕ
whole_then h n cs = head_then h.measure h.name.text (mark_then h.measure h.mark (cost_then h.measure h.cost (tail_then n cs)))

whole_split : (h : Heading) (n : ℕ) (cs : List CallTree) → IsFormedHeading h → n < 10 ^ 9 → AllByRecursion IsFormedCall cs → Split (whole_then h n cs) (whole_pieces h n cs)
whole_split h n cs f l g =
    head_split h.measure h.name.text (mark_then h.measure h.mark (cost_then h.measure h.cost (tail_then n cs))) (mark_pieces h.measure h.mark (cost_pieces h.measure h.cost (tail_pieces n cs))) f.name
    (mark_split h.measure h.mark (cost_then h.measure h.cost (tail_then n cs)) (cost_pieces h.measure h.cost (tail_pieces n cs))
    (cost_split h.measure h.cost (tail_then n cs) (tail_pieces n cs) f.cost (tail_split n cs l g)))

-- the lines of a text with this heading, count and calls
abbrev pub whole_lines : Heading → ℕ → List Text → List Text
whole_lines h n names = version_line h.measure ∷ (codes "task " ++ h.name.text) ∷ (mark_lines h.measure h.mark ++ (cost_lines h.measure h.cost ++ tail_lines n names))

lines-whole : (h : Heading) (n : ℕ) (cs : List CallTree) → lines (whole_lines h n (map name_of cs)) ≡ whole_then h n cs
lines-whole h n cs =
    let tail = tail_lines n (map name_of cs) in
    let behind_mark = cost_lines h.measure h.cost ++ tail in
    let behind_task = lines (mark_lines h.measure h.mark ++ behind_mark) in
    head-line h.measure (line (codes "task " ++ h.name.text) ++ behind_task)
    ∙ ap (λ z. codes "plan " ++ digit h.measure ∷ codes "\ntask " ++ z) (append_assoc h.name.text (10 ∷ []) behind_task)
    ∙ ap (λ z. head_then h.measure h.name.text z) (mark-lines h.measure h.mark behind_mark)
    ∙ ap (λ z. head_then h.measure h.name.text (mark_then h.measure h.mark z)) (cost-lines h.measure h.cost tail)
    ∙ ap (λ z. head_then h.measure h.name.text (mark_then h.measure h.mark (cost_then h.measure h.cost z))) (lines-tail n cs)

pub whole_is_split : (h : Heading) (n : ℕ) (cs : List CallTree) → IsFormedHeading h → n < 10 ^ 9 → AllByRecursion IsFormedCall cs
    → Split (lines (whole_lines h n (map name_of cs))) (whole_pieces h n cs)
whole_is_split h n cs f l g = subst (λ z. Split z (whole_pieces h n cs)) (sym (lines-whole h n cs)) (whole_split h n cs f l g)

-- the cost that a text of a measure states
abbrev pub stated : Measure → ℕ → Option ℕ
stated Length cost = None
stated Cost cost = Some cost

-- the tree of such a text, but for token numbers
abbrev pub tree_of : Heading → ℕ → List CallTree → PlanTree
tree_of h n cs = record { task = record { token = 0; text = h.name.text }; cost = stated h.measure h.cost; count = n; calls = cs }

tail_texts : (n : ℕ) (cs : List CallTree) → texts_of (tail_pieces n cs) ≡ texts (fixed the.Actions ∷ spell.count n ∷ (flat_map spell.call cs ++ fixed the.End ∷ []))
tail_texts n cs = ap (λ z. codes "actions" ∷ decimal n ∷ z) (calls_texts cs end_pieces ∙ sym (texts-append (flat_map spell.call cs) (fixed the.End ∷ [])))

cost_texts : (measure : Measure) (cost : ℕ) (ps : List Piece) → texts_of (cost_pieces measure cost ps) ≡ texts (spell.cost (stated measure cost)) ++ texts_of ps
cost_texts Length cost ps = refl
cost_texts Cost cost ps = refl

version_text : (measure : Measure) (cost : ℕ) → digit measure ∷ [] ≡ (spell.version (stated measure cost)).text
version_text Length cost = refl
version_text Cost cost = refl

pub whole_texts : (h : Heading) (n : ℕ) (cs : List CallTree) → texts_of (whole_pieces h n cs) ≡ texts (spell.plan (tree_of h n cs))
whole_texts h n cs =
    let tail = fixed the.Actions ∷ spell.count n ∷ (flat_map spell.call cs ++ fixed the.End ∷ []) in
    let cost = spell.cost (stated h.measure h.cost) in
    let behind_name =
    mark_texts h.measure h.mark (cost_pieces h.measure h.cost (tail_pieces n cs))
    ∙ cost_texts h.measure h.cost (tail_pieces n cs)
    ∙ ap (λ z. texts cost ++ z) (tail_texts n cs)
    ∙ sym (texts-append cost tail) in
    let front = λ (v : List ℕ) (z : List (List ℕ)). codes "plan" ∷ v ∷ codes "task" ∷ h.name.text ∷ z in
    ap (front (digit h.measure ∷ [])) behind_name ∙ ap (λ v. front v (texts (cost ++ tail))) (version_text h.measure h.cost)

-- ---- how long it is

name_long : (n : Name) → IsFormedName n → length n.text ≤ 64
name_long n f = by_text n.text (name_is n f)
  where
    by_text : (text : List ℕ) → is_piece (Spelling kind.Word) text ≡ true → length text ≤ 64
    by_text [] p = omega arith
    by_text (b ∷ bs) p =
        let few : length bs ≤ 63 = leb-true (length bs) 63 (both_true (is_letter b && list_all is_word_byte bs) (nat_le (length bs) 63) p).1 in
        omega arith

objects_long : (o : Name) (ns : List Name) (rest : List ℕ) → IsFormedName o → AllByRecursion IsFormedName ns → length (objects_then o.text ns rest) ≤ 66 + 65 * length ns + length rest
objects_long o [] rest f g = omega (arith, name_long o f, length-append o.text (41 ∷ 10 ∷ rest))
objects_long o (n ∷ ns) rest f g = omega (arith, name_long o f, objects_long n ns rest g.0 g.1, length-append o.text (44 ∷ objects_then n.text ns rest))

args_long : (n : Name) (ns : List Name) (rest : List ℕ) → IsFormedName n → AllByRecursion IsFormedName ns → length ns ≤ 6 → length (args_then n.text ns rest) ≤ 456 + length rest
args_long n [] rest f g l = omega (arith, name_long n f, length-append n.text (10 ∷ rest))
args_long n (o ∷ ns) rest f g l = omega (arith, name_long n f, objects_long o ns rest g.0 g.1, length-append n.text (40 ∷ objects_then o.text ns rest))

calls_bytes : (cs : List CallTree) (rest : List ℕ) → AllByRecursion IsFormedCall cs → AllByRecursion (λ c. length c.args ≤ 6) cs → length (lines (map name_of cs) ++ rest) ≤ 456 * length cs + length rest
calls_bytes [] rest f g = omega arith
calls_bytes (c ∷ cs) rest f g =
    let others = lines (map name_of cs) in
    let same = append_assoc (line (name_of c)) others rest ∙ line-printed c.name.text c.args (others ++ rest) in
    omega (arith, ap length same, args_long c.name c.args (others ++ rest) f.0.0 f.0.1 g.0, calls_bytes cs rest f.1 g.1)

mark_long : (measure : Measure) (mk : PlanMark) (rest : List ℕ) → length (mark_then measure mk rest) ≤ 11 + length rest
mark_long measure Plain rest = omega arith
mark_long Length Least rest = omega arith
mark_long Cost Least rest = omega arith
mark_long measure Found rest = omega arith

number_long : (text : Text) (n : ℕ) (rest : List ℕ) → n < 10 ^ 9 → length (number_then text n rest) ≤ length text + 11 + length rest
number_long text n rest l =
    omega (arith, length-decimal-le 9 n (omega arith) l (omega arith), length-append (decimal n) (10 ∷ rest), length-append text (32 ∷ (decimal n ++ 10 ∷ rest)))

cost_long : (measure : Measure) (cost : ℕ) (rest : List ℕ) → cost < 10 ^ 9 → length (cost_then measure cost rest) ≤ 15 + length rest
cost_long Length cost rest l = omega arith
cost_long Cost cost rest l = omega (arith, number_long (codes "cost") cost rest l)

pub whole_long : (h : Heading) (n : ℕ) (cs : List CallTree) → IsFormedHeading h → n < 10 ^ 9 → AllByRecursion IsFormedCall cs → AllByRecursion (λ c. length c.args ≤ 6) cs
    → length (lines (whole_lines h n (map name_of cs))) ≤ 125 + 456 * length cs
whole_long h n cs f l g s =
    let calls = lines (map name_of cs) ++ codes "end\n" in
    let tail = tail_then n cs in
    let cost = cost_then h.measure h.cost tail in
    let mark = mark_then h.measure h.mark cost in
    omega (arith, ap length (lines-whole h n cs), name_long h.name f.name, length-append h.name.text (10 ∷ mark), mark_long h.measure h.mark cost, cost_long h.measure h.cost tail f.cost, number_long (codes "actions") n calls l, calls_bytes cs (codes "end\n") g s)
