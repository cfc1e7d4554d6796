use Rattle.std.proofs.Common.{◌≡◌, ◌<◌, All, sym, subst, ap, ◌∙◌}
use Rattle.std.specs.List.{list_all}
use Rattle.ep_logic.specs.Rows.{value_at}
use Rattle.ep_theory.proofs.CallerLemmas.{all_at, to_all}
use Rattle.ep_truth.proofs.LabelLemmas.{designated_within, designated_at}
use Rattle.ep_truth.proofs.truths.holds_all.Goals as goal

pub is_true_at_all-requires : goal.is_true_at_all-requires
is_true_at_all-requires c =
    let s = c.args.s.now in
    subst (λ n. All (λ v. v < n) c.designated.result.now) (sym c.in_ok-row.ensures.long)
    (subst (λ vs. All (λ v. v < s.worlds) vs) (sym c.designated.ensures.value) (designated_within s c.designated.ensures.valid))

pub returns : goal.returns
returns c =
    let s = c.args.s.now in
    let row = c.in_ok-row.row in
    let truth = c.in_ok-row.ensures.truth in
    let below = designated_at s c.designated.ensures.valid in
    let e : c.is_true_at_all.result ≡ list_all (value_at row) s.designated = c.is_true_at_all.ensures ∙ ap (list_all (value_at row)) c.designated.ensures.value in (
      λ t w i. (truth w (below w i)).0 (all_at (value_at row) w s.designated (sym e ∙ t) i),
      λ h. e ∙ to_all (value_at row) s.designated (λ w i. (truth w (below w i)).1 (h w i)),
    )
