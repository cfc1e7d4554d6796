-- The lines of a plan's actions, one line on.
use Rattle.std.proofs.Common.{◌≡◌, ℕ, ◌+◌, ◌<◌, List, [], ◌∷◌, ◌++◌, length, map, take, get_or, Some, ap, ◌∙◌, subst, append-nil}
use Rattle.std.specs.Prelude.{slice_get}
use Rattle.std.proofs.lemmas.List.{map-append, take_more}
use Rattle.std.proofs.lemmas.List.Concat.{flat_map-append}
use Rattle.std.proofs.lemmas.Option.{get_or_from_slice_get}
use Rattle.ep_logic.specs.declared.ids.ActionId.{ActionId}
use Rattle.ep_types.specs.Names.{Text}
use Rattle.ep_ground.specs.Task.{GroundTask}
use Rattle.ep_base.specs.Texts.{line, lines}
use Rattle.ep_plan_text.specs.PlanText.{action_name}

lines-more : (g : GroundTask) (plan : List ActionId) (i : ℕ) (a : ActionId) (name : Text) → i < length plan → slice_get g.actions (get_or plan i a).n ≡ Some name
    → lines (map (action_name g) (take (i + 1) plan)) ≡ lines (map (action_name g) (take i plan)) ++ line name
lines-more g plan i a name l e =
    ap (λ z. lines (map (action_name g) z)) (take_more plan i a l)
    ∙ ap lines (map-append (action_name g) (take i plan) (get_or plan i a ∷ []))
    ∙ flat_map-append line (map (action_name g) (take i plan)) (action_name g (get_or plan i a) ∷ [])
    ∙ ap (λ z. lines (map (action_name g) (take i plan)) ++ z) (append-nil (line (action_name g (get_or plan i a))) ∙ ap line (get_or_from_slice_get g.actions (get_or plan i a).n name [] e))

pub lines-next : (g : GroundTask) (items plan : List ActionId) (i : ℕ) (a : ActionId) (name : Text) → items ≡ plan → i < length items → slice_get g.actions (get_or items i a).n ≡ Some name
    → lines (map (action_name g) (take (i + 1) plan)) ≡ lines (map (action_name g) (take i plan)) ++ line name
lines-next g items plan i a name same l e =
    subst (λ z. lines (map (action_name g) (take (i + 1) z)) ≡ lines (map (action_name g) (take i z)) ++ line name) same (lines-more g items i a name l e)
