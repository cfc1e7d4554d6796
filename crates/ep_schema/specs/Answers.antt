-- Why a body gives no action.
use Rattle.std.specs.Prelude.{◌≡◌, true, Result, Ok, Err}
use Rattle.ep_theory.specs.Events.{EventModel}
use Rattle.ep_event.specs.declared.refusal.ActionError.{ActionError}
use Rattle.ep_event.specs.declared.refusal.ActionError.TheVariants as action
use Rattle.ep_schema.specs.Actions.{assigns_twice}
use Rattle.ep_schema.specs.declared.body_error.BodyError.{BodyError}
use Rattle.ep_schema.specs.declared.body_error.BodyError.TheVariants.{AtomTwice, OutOfMemory}

-- an atom set twice comes only where an event assigns to one atom twice
abbrev pub Refuses : EventModel → BodyError → Type 0
Refuses A AtomTwice = assigns_twice A ≡ true
Refuses A OutOfMemory = Unit {0}

-- what the builder of actions may say of a body: that an atom is set twice, or that memory is wanting
abbrev pub IsOfBody : ActionError → Type 0
IsOfBody (action.AtomTwice event atom) = Unit {0}
IsOfBody action.OutOfMemory = Unit {0}
IsOfBody _ = ⊥

abbrev pub body_error : ActionError → BodyError
body_error (action.AtomTwice event atom) = AtomTwice
body_error _ = OutOfMemory

abbrev pub of_body : Result EventModel ActionError → Result EventModel BodyError
of_body (Ok A) = Ok A
of_body (Err e) = Err (body_error e)
