-- Whether what was written rests on a guide.
use Rattle.std.proofs.Common.{◌≡◌, ◌≤◌, ℕ, List, [], ◌∷◌, ◌++◌, Option, Some, None, drop, sym, ap, subst, ◌∙◌}
use Rattle.std.specs.Io.KnownBytes.{Appends}
use Rattle.ep_bounds.specs.declared.bounds.Bounds.{Bounds}
use Rattle.ep_bounds.specs.declared.bounds.Mode.{Mode}
use Rattle.ep_words.specs.declared.command.Command.TheVariants.{Plan}
use Rattle.ep_answer.specs.declared.answer.Answer.{Answer}
use Rattle.ep_answer.specs.declared.status.Status.{Status}
use Rattle.ep_answer.specs.declared.status.Status.TheVariants as done
use Rattle.ep_answer.specs.Answer.{answer_status, answer_text}
use Rattle.ep_reading.specs.Guides.{AnswerNeeds, ListsACall, NeedsGuide, RestsOnScores}
use Rattle.ep_planning.specs.Asked.{WasAskedAt}

-- the guide of the words is the command's
pub asked_of : {G : Type 0} (count : G → ℕ) (old new : List G) (b d : Bounds) (guide other : ℕ) (mode also : Mode) (N : Type 0) → Plan b guide mode ≡ Plan d other also
    → (1 ≤ b.bound → N → WasAskedAt count old new guide) → 1 ≤ d.bound → N → WasAskedAt count old new other
asked_of count old new b d guide other mode also N e f some needs =
    let bounds : b ≡ d = cc in
    let place : guide ≡ other = cc in
    subst (WasAskedAt count old new) place (f (subst (λ (x : Bounds). 1 ≤ x.bound) (sym bounds) some) needs)

prefix_same : (xs text told : List ℕ) → xs ++ text ≡ xs ++ told → text ≡ told
prefix_same [] text told e = e
prefix_same (x ∷ xs) text told e = prefix_same xs text told (ap (drop 1) e)

pub rests_needs : (status : Status) (old new : Option (List ℕ)) (told : List ℕ) → Appends old new told → RestsOnScores status old new → NeedsGuide status told
rests_needs done.No old new told a r = tt
rests_needs done.Ok None new told a r = absurd r
rests_needs done.Ok (Some xs) None told a r = absurd r
rests_needs done.Ok (Some xs) (Some ys) told a r = subst ListsACall (prefix_same xs r.0 told (sym r.1 ∙ a)) r.2
rests_needs done.Usage old new told a r = absurd r
rests_needs done.Refused old new told a r = absurd r
rests_needs done.ReadFault old new told a r = absurd r
rests_needs done.WriteFault old new told a r = absurd r
rests_needs done.OutOfMemory old new told a r = absurd r
rests_needs done.Undecided old new told a r = absurd r

-- an answer that was written rests on scores only if it needs a guide
pub rests_answer : (answer : Answer) (status : Status) (old new : Option (List ℕ)) (bytes : List ℕ) → status ≡ answer_status answer → bytes ≡ answer_text answer
    → Appends old new bytes → RestsOnScores status old new → AnswerNeeds answer
unfolding AnswerNeeds
rests_answer answer status old new bytes s b a r =
    subst (λ s. NeedsGuide s (answer_text answer)) s (subst (NeedsGuide status) b (rests_needs status old new bytes a r))
