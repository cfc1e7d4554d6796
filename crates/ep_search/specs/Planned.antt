-- Plans that the parents give.
use Rattle.std.specs.Prelude.{◌≡◌, List, [], ◌∷◌, ◌++◌, map}
use Rattle.ep_logic.specs.declared.ids.ActionId.{ActionId}
use Rattle.ep_store.specs.declared.entry.Step.{Step}
use Rattle.ep_store.specs.declared.entry.Entry.{Entry}
use Rattle.ep_store.specs.Stored.{IsPath}

abbrev pub actions_of : List Step → List ActionId
actions_of steps = map (λ step. step.action) steps

-- the actions of the steps along the parents of an entry, and that of one more step from it
pub record IsPlanBy (es : List Entry) (last : Step) (plan : List ActionId) : Type 0 where
  pub path : List Step
  pub is_path : IsPath es last.parent.n path
  pub actions : plan ≡ actions_of path ++ last.action ∷ []
