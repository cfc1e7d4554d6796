-- The last item with an agent, and the worlds that agree.
use Rattle.std.proofs.Common.{◌≡◌, ℕ, suc, ◌+◌, ◌<◌, Bool, cond, List, [], ◌∷◌, ◌++◌, length, drop, get_or, refl, ap, sym, ◌∙◌, add-one}
use Rattle.std.proofs.Math.Seq.{drop-cons}
use Rattle.ep_logic.specs.Rows.{value_at}
use Rattle.ep_logic.specs.Numbers.{numbers_where, table}
use Rattle.ep_logic.proofs.CallerLemmas.{length-table}
use Rattle.ep_tree.specs.declared.tree.AtomTree.{AtomTree}
use Rattle.ep_tree.specs.declared.tree.SeesTree.{SeesTree}
use Rattle.ep_types.specs.declared.scope.Declared.{Declared}
use Rattle.ep_universe.specs.Objects.{group_of}
use Rattle.ep_initial.specs.Seeing.{alike, alike_rows, last_seen}
use Rattle.ep_initial.proofs.StateLemmas.{AreLinks, table_pairs}

pub last_more : (d : Declared) (a : ℕ) (before : List AtomTree) (ss : List SeesTree) (i : ℕ) (s : SeesTree) → i < length ss → s ≡ get_or ss i s →
    last_seen d a before (drop i ss) ≡ last_seen d a (cond (value_at (group_of d [] s.group) a) s.atoms before) (drop (i + 1) ss)
last_more d a before ss i s h here =
    ap (last_seen d a before) (drop-cons ss i s h)
    ∙ ap (λ (x : SeesTree). last_seen d a (cond (value_at (group_of d [] x.group) a) x.atoms before) (drop (suc i) ss)) (sym here)
    ∙ ap (λ k. last_seen d a (cond (value_at (group_of d [] s.group) a) s.atoms before) (drop k ss)) (sym (add-one i))

pub table-more : {X : Type 0} (f : ℕ → X) (i : ℕ) → table f (i + 1) ≡ table f i ++ f i ∷ []
table-more f i = ap (table f) (add-one i)

-- the rows of worlds that agree give the links
pub alike_links : (agents atoms : ℕ) (rows : List (List Bool)) (seen : ℕ → List ℕ) (ids : List ℕ) → AreLinks agents atoms rows (λ a. alike rows (seen a)) ids (λ a. alike_rows rows (seen a))
alike_links agents atoms rows seen ids = record {
  long = λ a. length-table (λ v. numbers_where (alike rows (seen a) v) (length rows)) (length rows);
  pairs = λ a. table_pairs (alike rows (seen a)) (length rows) (λ v. numbers_where (alike rows (seen a) v) (length rows)) (λ v l. refl);
}
