-- Tables that are made row by row, and rows that are made cell by cell.
use Rattle.std.proofs.Common.{◌≡◌, ℕ, zero, suc, ◌<◌, ◌≤◌, ◌+◌, ◌*◌, ◌⊎◌, inl, inr, ⊎_elim, List, [], ◌∷◌, ◌++◌, length, get_or, map, refl, sym, ap, ap₂, subst, ◌∙◌, arith, length-append, Option, Some, None, slice_index, false}
use Rattle.ep_logic.specs.declared.ids.AgentId.{AgentId}
use Rattle.ep_logic.specs.declared.formula.Node.TheVariants.{Not, Knows}
use Rattle.ep_theory.specs.Rising.{IsIn}
use Rattle.ep_theory.specs.Kind.{kind}
use Rattle.ep_theory.specs.Kripke.{Kripke, IsState, links_of, truth_of, atom_at, successors}
use Rattle.ep_theory.proofs.CallerLemmas.{All-at, IsIn-at, IsIn-successors, from_successors, last_or_before, links_within, same_places}
use Rattle.ep_apart.specs.declared.lines.Line.{Line}
use Rattle.ep_apart.specs.Lines.{formula_of}
use Rattle.ep_apart.specs.Tables.{Tells, IsCell, IsRow, IsTable, IsBefore, IsGrid, cell, in_row, told_count, told_row, told_table, IsFullRow, Grows, IsConjunction, IsLone, IsLoneLink, IsAnswered, IsNextCell}
use Rattle.ep_apart.proofs.GrowLemmas.{grows_refl, grows_trans}
use Rattle.ep_apart.proofs.ToldLemmas.{tells_later, tells_all, tells_possible, tells_known, cell_on, row_on, table_on, cell_next}

pub get_left : {A : Type 0} (d : A) (xs ys : List A) (k : ℕ) → k < length xs → get_or (xs ++ ys) k d ≡ get_or xs k d
get_left d [] ys k h = absurd (omega arith)
get_left d (x ∷ xs) ys zero h = refl
get_left d (x ∷ xs) ys (suc k) h = get_left d xs ys k (omega arith)

pub get_end : {A : Type 0} (d : A) (xs : List A) (y : A) (k : ℕ) → k ≡ length xs → get_or (xs ++ y ∷ []) k d ≡ y
get_end d [] y zero h = refl
get_end d [] y (suc k) h = absurd (omega arith)
get_end d (x ∷ xs) y zero h = absurd (omega arith)
get_end d (x ∷ xs) y (suc k) h = get_end d xs y k (omega arith)

-- counts of cells
told_same : (h g : ℕ → Option ℕ) (n : ℕ) → ((d : ℕ) → d < n → h d ≡ g d) → told_row h n ≡ told_row g n
told_same h g zero e = refl
told_same h g (suc n) e = ap₂ (λ a b. a + told_count b) (told_same h g n (λ d l. e d (omega arith))) (e n (omega arith))

told_all_same : (h g : ℕ → ℕ → Option ℕ) (n m : ℕ) → ((c d : ℕ) → c < m → h c d ≡ g c d) → told_table h n m ≡ told_table g n m
told_all_same h g n zero e = refl
told_all_same h g n (suc m) e = ap₂ (λ a b. a + b) (told_all_same h g n m (λ c d l. e c d (omega arith))) (told_same (h m) (g m) n (λ d l. e m d (omega arith)))

count-bound : (o : Option ℕ) → told_count o ≤ 1
count-bound None = omega arith
count-bound (Some j) = omega arith

pub row-bound : (h : ℕ → Option ℕ) (n : ℕ) → told_row h n ≤ n
row-bound h zero = omega arith
row-bound h (suc n) = let a = row-bound h n in let b = count-bound (h n) in omega arith

pub table-bound : (h : ℕ → ℕ → Option ℕ) (n m b : ℕ) → n ≤ b → told_table h n m ≤ m * b
table-bound h n zero b l = omega arith
table-bound h n (suc m) b l =
    let a = table-bound h n m b l in
    let r = row-bound (h m) n in
    let e : suc m * b ≡ m * b + b = omega arith in
    omega arith

-- a table by its grid
pub grid_of : (Q : Kripke) (k : ℕ) (lines : List Line) (table : List (List (Option ℕ))) → IsTable Q k lines table → IsGrid Q.worlds lines table
grid_of Q k lines table t = record {
  long = t.long;
  rows = λ c b. (t.rows c b).long;
  within = λ c d j a b e. let s : Tells Q k lines j c (λ y. y ≡ d) = subst (IsCell Q k lines c d) e ((t.rows c a).cells d b) in s.within;
}

pub before_on : (Q : Kripke) (k : ℕ) (old new : List Line) (table : List (List (Option ℕ))) → (ls : List Line) × (new ≡ old ++ ls) → IsBefore Q k old table → IsBefore Q k new table
before_on Q zero old new table m h = h
before_on Q (suc k) old new table m h = table_on Q k old new table m h

-- the level before
pub level_before : (Q : Kripke) (k : ℕ) (lines : List Line) (table : List (List (Option ℕ))) → (k ≡ 0 → ⊥) → IsBefore Q k lines table → (m : ℕ) × (suc m ≡ k) × IsTable Q m lines table
level_before Q zero lines table n h = absurd (n refl)
level_before Q (suc k) lines table n h = (k, refl, h)

pub before_next : (Q : Kripke) (k : ℕ) (lines : List Line) (table : List (List (Option ℕ))) → IsTable Q k lines table → IsBefore Q (k + 1) lines table
before_next Q k lines table t = let q : suc k ≡ k + 1 = omega arith in subst (λ n. IsBefore Q n lines table) q t

-- the lines in the cells of worlds are lines
world_of : (g : ℕ → Option ℕ) (ys js : List ℕ) → map g ys ≡ map Some js → (j : ℕ) → IsIn j js → (y : ℕ) × IsIn y ys × (g y ≡ Some j)
world_of g [] [] e j i = absurd i
world_of g [] (k ∷ js) e j i = cc
world_of g (z ∷ ys) [] e j i = absurd i
world_of g (z ∷ ys) (k ∷ js) e j (inl q) = let f : g z ≡ Some k = cc in (z, inl refl, f ∙ ap Some (sym q))
world_of g (z ∷ ys) (k ∷ js) e j (inr i) =
    let f : map g ys ≡ map Some js = cc in
    let r = world_of g ys js f j i in
    (r.0, inr r.1, r.2)

pub parts_known : (lines : List Line) (table : List (List (Option ℕ))) (x : ℕ) (row : List (Option ℕ)) (ys js : List ℕ) → IsGrid (length table) lines table → x < length table → row ≡ get_or table x [] →
    ((y : ℕ) → IsIn y ys → y < length table) → map (in_row row) ys ≡ map Some js → (k d : ℕ) → k < length js → get_or js k d < length lines
parts_known lines table x row ys js g b e h p k d l =
    let y = world_of (in_row row) ys js p (get_or js k d) (IsIn-at js k d l) in
    g.within x y.0 (get_or js k d) b (h y.0 y.1) (ap (λ r. in_row r y.0) (sym e) ∙ y.2)

pub lone_found : (table : List (List (Option ℕ))) (xs ys : List ℕ) (old new : List Line) (i j : ℕ) (row : List (Option ℕ)) (js : List ℕ) → i < length xs → ((x : ℕ) → IsIn x xs → x < length table) → ((y : ℕ) → IsIn y ys → y < length table) →
    row ≡ get_or table (get_or xs i 0) [] → map (in_row row) ys ≡ map Some js → IsConjunction old new js j → IsLone table xs ys old new (Some j)
lone_found table xs ys old new i j row js l hx hy e p a Q k t =
    let x = get_or xs i 0 in
    let m = IsIn-at xs i 0 l in (
      x,
      m,
      tells_all Q k old new x j row ys js
          (λ y n. subst (λ r. IsCell Q k old x y (in_row r y)) (sym e) ((t.rows x (let b = hx x m in let q = t.long in omega arith)).cells y (let b = hy y n in let q = t.long in omega arith))) p a,
    )

pub none_before : (table : List (List (Option ℕ))) (xs ys : List ℕ) (i : ℕ) (row : List (Option ℕ)) → ((v : ℕ) → v < i → (y : ℕ) × IsIn y ys × (cell table (slice_index xs v) y ≡ None)) →
    row ≡ get_or table (get_or xs i 0) [] → ((y : ℕ) × IsIn y ys × (in_row row y ≡ None)) → (v : ℕ) → v < i + 1 → (y : ℕ) × IsIn y ys × (cell table (slice_index xs v) y ≡ None)
none_before table xs ys i row h e n v l = ⊎_elim
    (λ (q : v ≡ i). (n.0, n.1, ap (λ z. cell table (slice_index xs z) n.0) q ∙ ap (λ r. in_row r n.0) (sym e) ∙ n.2))
    (λ (b : v < i). h v b)
    (last_or_before v i (omega arith))

pub none_at_all : (table : List (List (Option ℕ))) (xs ys : List ℕ) (i : ℕ) → length xs ≤ i → ((v : ℕ) → v < i → (y : ℕ) × IsIn y ys × (cell table (slice_index xs v) y ≡ None)) →
    (x : ℕ) → IsIn x xs → (y : ℕ) × IsIn y ys × (cell table x y ≡ None)
none_at_all table xs ys i l h x m =
    let p = place_of xs x m in
    let r = h p.0 (let b = p.1 in omega arith) in
    (r.0, r.1, ap (λ z. cell table z r.0) (sym p.2) ∙ r.2)
  where
    place_of : (xs : List ℕ) (x : ℕ) → IsIn x xs → (i : ℕ) × (i < length xs) × (slice_index xs i ≡ x)
    place_of [] x m = absurd m
    place_of (z ∷ zs) x (inl q) = (0, (omega arith), sym q)
    place_of (z ∷ zs) x (inr m) = let r = place_of zs x m in (suc r.0, (let b = r.1 in omega arith), r.2)

-- the worlds to which an agent links a world
pub successors_below : (Q : Kripke) → IsState Q → (a w n : ℕ) (ws : List ℕ) → ws ≡ successors (links_of Q a) w → Q.worlds ≡ n → (k d : ℕ) → k < length ws → get_or ws k d < n
successors_below Q q a w n ws e m k d l =
    let i = subst (λ l. IsIn (get_or ws k d) l) e (IsIn-at ws k d l) in
    let b = (links_within Q q a w (get_or ws k d) (from_successors w (get_or ws k d) (links_of Q a) i)).1 in
    omega arith

pub answered_by : (Q : Kripke) (table : List (List (Option ℕ))) (a c d : ℕ) (xs ys : List ℕ) → xs ≡ successors (links_of Q a) c → ys ≡ successors (links_of Q a) d →
    ((x : ℕ) → IsIn x xs → (y : ℕ) × IsIn y ys × (cell table x y ≡ None)) → IsAnswered Q table a c d
answered_by Q table a c d xs ys e f h x i =
    let y = h x (subst (IsIn x) (sym e) (IsIn-successors c x (links_of Q a) i)) in
    (y.0, from_successors d y.0 (links_of Q a) (subst (IsIn y.0) f y.1), y.2)

pub answered_more : (Q : Kripke) (table : List (List (Option ℕ))) (a c d : ℕ) → ((b : ℕ) → b < a → IsAnswered Q table b c d) → IsAnswered Q table a c d → (b : ℕ) → b < a + 1 → IsAnswered Q table b c d
answered_more Q table a c d h n b l = ⊎_elim
    (λ (q : b ≡ a). subst (λ z. IsAnswered Q table z c d) (sym q) n)
    (λ (k : b < a). h b k)
    (last_or_before b a (omega arith))

no_links : (Q : Kripke) (a : ℕ) → length Q.links ≤ a → links_of Q a ≡ []
no_links Q a l = go Q.links a l
  where
    go : (ls : List (List (ℕ × ℕ))) (a : ℕ) → length ls ≤ a → get_or ls a [] ≡ []
    go [] a l = refl
    go (p ∷ ps) zero l = absurd (omega arith)
    go (p ∷ ps) (suc a) l = go ps a (omega arith)

pub all_answered : (Q : Kripke) → IsState Q → (table : List (List (Option ℕ))) (n c d : ℕ) → Q.agents ≤ n → ((b : ℕ) → b < n → IsAnswered Q table b c d) → (a : ℕ) → IsAnswered Q table a c d
all_answered Q q table n c d l h a = ⊎_elim
    (λ (b : a < n). h a b)
    (λ (b : n ≤ a). λ x i. absurd (subst (λ l. IsIn {A = ℕ × ℕ} (c, x) l) (no_links Q a (let r = q.relations in omega arith)) i))
    (lt_or_le a n)
  where
    lt_or_le : (m n : ℕ) → (m < n) ⊎ (n ≤ m)
    lt_or_le m n = grind arith

-- a lone line by the agent's links
pub lone_link : (Q : Kripke) (table : List (List (Option ℕ))) (a c d : ℕ) (old new : List Line) (xs ys : List ℕ) (o : Option ℕ) → xs ≡ successors (links_of Q a) c → ys ≡ successors (links_of Q a) d →
    IsLone table xs ys old new o → IsLoneLink Q table a c d old new o
lone_link Q table a c d old new xs ys None e f h = (h.0, answered_by Q table a c d xs ys e f h.1)
lone_link Q table a c d old new xs ys (Some j) e f h = λ k t.
    let x = h Q k t in (
      x.0,
      from_successors c x.0 (links_of Q a) (subst (IsIn x.0) e x.1),
      record { within = x.2.within; here = x.2.here; nowhere = λ y i. x.2.nowhere y (subst (IsIn y) (sym f) (IsIn-successors d y (links_of Q a) i)); shallow = x.2.shallow },
    )

pub next_possible : (Q : Kripke) (table : List (List (Option ℕ))) (old mid new : List Line) (agent : AgentId) (c d j r : ℕ) →
    IsLoneLink Q table agent.n c d old mid (Some j) → formula_of new r ≡ Not (Knows agent (Not (formula_of mid j))) → r < length new → IsNextCell Q table old new c d (Some r)
next_possible Q table old mid new agent c d j r h p w k t =
    let x = h k t in
    tells_possible Q k mid new j r c d x.0 agent x.1 x.2 p w

pub next_known : (Q : Kripke) (table : List (List (Option ℕ))) (old mid new : List Line) (agent : AgentId) (c d j r : ℕ) →
    IsLoneLink Q table agent.n d c old mid (Some j) → formula_of new r ≡ Knows agent (Not (formula_of mid j)) → r < length new → IsNextCell Q table old new c d (Some r)
next_known Q table old mid new agent c d j r h p w k t =
    let x = h k t in
    tells_known Q k mid new j r c d x.0 agent x.1 x.2 p w

-- a cell of the next level
pub next_level : (Q : Kripke) → IsState Q → (k : ℕ) (table : List (List (Option ℕ))) (old new : List Line) (c d : ℕ) (o : Option ℕ) → IsTable Q k old table → c < Q.worlds → d < Q.worlds → cell table c d ≡ None →
    IsNextCell Q table old new c d o → IsCell Q (suc k) new c d o
next_level Q q k table old new c d None t a b e n = cell_next Q q k old table c d t a b e n.0 n.1 (links_within Q q)
next_level Q q k table old new c d (Some j) t a b e n = n k t

-- no line tells a world from itself
pub itself : (Q : Kripke) (k : ℕ) (lines : List Line) (table : List (List (Option ℕ))) (c : ℕ) → IsBefore Q k lines table → c < Q.worlds → told_count (cell table c c) ≡ 0
itself Q zero lines table c h b = ap (λ t. told_count (cell t c c)) h
itself Q (suc k) lines table c h b = go (cell table c c) ((h.rows c b).cells c b)
  where
    go : (o : Option ℕ) → IsCell Q k lines c c o → told_count o ≡ 0
    go None t = refl
    go (Some j) t = absurd (t.nowhere c refl t.here)

-- the atoms of two worlds agree
pub same_truth : (Q : Kripke) → IsState Q → (c d n : ℕ) → c < Q.worlds → d < Q.worlds → Q.atoms ≤ n → ((p : ℕ) → p < n → atom_at Q c p ≡ atom_at Q d p) → truth_of Q c ≡ truth_of Q d
same_truth Q q c d n a b l h =
    let u : length (truth_of Q c) ≡ Q.atoms = All-at (λ t. length t ≡ Q.atoms) Q.truth c [] (let e = q.truths in omega arith) q.each_truth in
    let v : length (truth_of Q d) ≡ Q.atoms = All-at (λ t. length t ≡ Q.atoms) Q.truth d [] (let e = q.truths in omega arith) q.each_truth in
    same_places false (truth_of Q c) (truth_of Q d) (u ∙ sym v) (λ i m. h i (omega arith))

-- rows and tables in the making
pub record RowSoFar (Q : Kripke) (k : ℕ) (old lines : List Line) (table : List (List (Option ℕ))) (c d : ℕ) (row : List (Option ℕ)) : Type 0 where
  pub long : length row ≡ d
  pub cells : (e : ℕ) → e < d → IsCell Q k lines c e (in_row row e)
  pub grows : Grows Q.agents Q.atoms old lines
  pub few : length lines + 4 * told_row (cell table c) d ≤ length old + 4 * told_row (in_row row) d

pub row_start : (Q : Kripke) (k : ℕ) (lines : List Line) (table : List (List (Option ℕ))) (c : ℕ) (row : List (Option ℕ)) → row ≡ [] → RowSoFar Q k lines lines table c 0 row
row_start Q k lines table c row e = record { long = ap length e; cells = λ d l. absurd (omega arith); grows = grows_refl Q.agents Q.atoms lines; few = omega arith }

pub row_step : (Q : Kripke) (k : ℕ) (old lines new : List Line) (table : List (List (Option ℕ))) (c d : ℕ) (row more : List (Option ℕ)) (o : Option ℕ) → RowSoFar Q k old lines table c d row → IsCell Q k new c d o → Grows Q.agents Q.atoms lines new →
    length new + 4 * told_count (cell table c d) ≤ length lines + 4 * told_count o → more ≡ row ++ o ∷ [] → RowSoFar Q k old new table c (d + 1) more
row_step Q k old lines new table c d row more o r t g f e =
    let q : suc d ≡ d + 1 = omega arith in
    let long = r.long in
    let last : in_row more d ≡ o = ap (λ l. in_row l d) e ∙ get_end None row o d (sym long) in
    let count = told_same (in_row more) (in_row row) d (λ i l. ap (λ l. in_row l i) e ∙ get_left None row (o ∷ []) i (omega arith)) in
    let one = ap told_count last in
    subst (λ n. RowSoFar Q k old new table c n more) q (record {
      long = (let a = ap length e in let b = length-append row (o ∷ []) in omega arith);
      cells = λ i l. ⊎_elim
          (λ (p : i ≡ d). subst (λ z. IsCell Q k new c z (in_row more z)) (sym p) (subst (IsCell Q k new c d) (sym last) t))
          (λ (b : i < d). subst (IsCell Q k new c i) (sym (ap (λ l. in_row l i) e ∙ get_left None row (o ∷ []) i (omega arith))) (cell_on Q k lines new c i (in_row row i) g.more (r.cells i b)))
          (last_or_before i d l);
      grows = grows_trans Q.agents Q.atoms old lines new r.grows g;
      few = (let h = r.few in omega arith);
    })

pub record TableSoFar (Q : Kripke) (k : ℕ) (old lines : List Line) (table : List (List (Option ℕ))) (c : ℕ) (rows : List (List (Option ℕ))) : Type 0 where
  pub long : length rows ≡ c
  pub each : (e : ℕ) → e < c → IsRow Q k lines e (get_or rows e [])
  pub grows : Grows Q.agents Q.atoms old lines
  pub few : length lines + 4 * told_table (cell table) Q.worlds c ≤ length old + 4 * told_table (cell rows) Q.worlds c

pub table_start : (Q : Kripke) (k : ℕ) (lines : List Line) (table rows : List (List (Option ℕ))) → rows ≡ [] → TableSoFar Q k lines lines table 0 rows
table_start Q k lines table rows e = record { long = ap length e; each = λ d l. absurd (omega arith); grows = grows_refl Q.agents Q.atoms lines; few = omega arith }

pub table_step : (Q : Kripke) (k : ℕ) (old lines new : List Line) (table rows more : List (List (Option ℕ))) (c : ℕ) (row : List (Option ℕ)) → TableSoFar Q k old lines table c rows → IsRow Q k new c row → Grows Q.agents Q.atoms lines new →
    length new + 4 * told_row (cell table c) Q.worlds ≤ length lines + 4 * told_row (in_row row) Q.worlds → more ≡ rows ++ row ∷ [] → TableSoFar Q k old new table (c + 1) more
table_step Q k old lines new table rows more c row r t g f e =
    let q : suc c ≡ c + 1 = omega arith in
    let long = r.long in
    let last : get_or more c [] ≡ row = ap (λ l. get_or l c []) e ∙ get_end [] rows row c (sym long) in
    let before = λ (i : ℕ) (l : i < c). ap (λ l. get_or l i []) e ∙ get_left [] rows (row ∷ []) i (omega arith) in
    let count = told_all_same (cell more) (cell rows) Q.worlds c (λ i d l. ap (λ l. in_row l d) (before i l)) in
    let one = ap (λ l. told_row (in_row l) Q.worlds) last in
    subst (λ n. TableSoFar Q k old new table n more) q (record {
      long = (let a = ap length e in let b = length-append rows (row ∷ []) in omega arith);
      each = λ i l. ⊎_elim
          (λ (p : i ≡ c). subst (λ z. IsRow Q k new z (get_or more z [])) (sym p) (subst (IsRow Q k new c) (sym last) t))
          (λ (b : i < c). subst (IsRow Q k new i) (sym (before i b)) (row_on Q k lines new i (get_or rows i []) g.more (r.each i b)))
          (last_or_before i c l);
      grows = grows_trans Q.agents Q.atoms old lines new r.grows g;
      few = (let h = r.few in omega arith);
    })

pub whole_table : (Q : Kripke) (k : ℕ) (old lines : List Line) (table rows : List (List (Option ℕ))) (c : ℕ) → c ≡ Q.worlds → TableSoFar Q k old lines table c rows → IsTable Q k lines rows
whole_table Q k old lines table rows c e r = record { long = r.long ∙ e; rows = λ i b. r.each i (omega arith) }

-- a table in which each two worlds are told apart is one of any later level
later_cell : (Q : Kripke) (k m : ℕ) (lines : List Line) (c d : ℕ) (o : Option ℕ) → k ≤ m → ((d ≡ c → ⊥) → o ≡ None → ⊥) → IsCell Q k lines c d o → IsCell Q m lines c d o
later_cell Q k m lines c d (Some j) l f t = tells_later Q k m lines j c (λ y. y ≡ d) l t
later_cell Q k m lines c d None l f t = ⊎_elim
    (λ (q : d ≡ c). ap (kind Q m) (sym q))
    (λ (n : d ≡ c → ⊥). absurd (f n refl))
    (same_or_not d c)
  where
    same_or_not : (x y : ℕ) → (x ≡ y) ⊎ (x ≡ y → ⊥)
    same_or_not x y = grind arith

pub full_before : (Q : Kripke) (k : ℕ) (lines : List Line) (table : List (List (Option ℕ))) → k < Q.worlds → IsTable Q k lines table → ((c : ℕ) → c < length table → IsFullRow (get_or table c []) c) → IsBefore Q Q.worlds lines table
full_before Q k lines table l t f = go Q.worlds refl
  where
    go : (n : ℕ) → n ≡ Q.worlds → IsBefore Q n lines table
    go zero e = absurd (omega arith)
    go (suc m) e = record {
      long = t.long;
      rows = λ c b. record {
        long = (t.rows c b).long;
        cells = λ d a. later_cell Q k m lines c d (in_row (get_or table c []) d) (omega arith)
            (λ n q. f c (let z = t.long in omega arith) d (let z = (t.rows c b).long in omega arith) n q) ((t.rows c b).cells d a);
      };
    }
