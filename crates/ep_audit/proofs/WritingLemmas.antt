-- Certificates line by line.
use Rattle.std.proofs.Common.{◌≡◌, ◌≢◌, ℕ, suc, List, [], ◌∷◌, ◌++◌, refl, sym, ap, ◌∙◌, subst, arith, codes, append_assoc}
use Rattle.std.proofs.lemmas.List.Elements.{All-nil, All-cons}
use Rattle.ep_audit.specs.NamedTasks.{NamedTask}
use Rattle.ep_audit.specs.Lines.{IsLine}
use Rattle.ep_audit.specs.Certificates.{TakesAt, Takes, nothing_told, Keeps, start, more, Certifies}
use Rattle.ep_audit.specs.Writing.{Wrote}
use Rattle.ep_audit.specs.declared.progress.DueLine.TheVariants.{End, Nothing}
use Rattle.ep_audit.specs.declared.progress.Progress.{Progress}

pub wrote_none : (T : NamedTask) → Wrote T [] 0 nothing_told
wrote_none T = λ rest. start

-- the line and what comes behind it
one_piece : (text line rest : List ℕ) → (text ++ (line ++ 10 ∷ [])) ++ rest ≡ text ++ (line ++ 10 ∷ rest)
one_piece text line rest = append_assoc text (line ++ 10 ∷ []) rest ∙ ap (λ x. text ++ x) (append_assoc line (10 ∷ []) rest)

pub wrote_more : (T : NamedTask) (text : List ℕ) (n : ℕ) (told next : Progress) (line : List ℕ) → Wrote T text n told → IsLine line → ((behind : List ℕ) → Takes T told line behind next) → Wrote T (text ++ (line ++ 10 ∷ [])) (suc n) next
wrote_more T text n told next line w is_line t =
    λ rest. subst (λ x. Keeps T x (suc n) next rest) (sym (one_piece text line rest)) (more line rest next (w (line ++ 10 ∷ rest)) is_line (t rest))

end_line : IsLine (codes "end")
end_line = All-cons (λ b. b ≢ 10) 101 (110 ∷ 100 ∷ []) (λ e. absurd (omega (arith, e))) (All-cons (λ b. b ≢ 10) 110 (100 ∷ []) (λ e. absurd (omega (arith, e))) (All-cons (λ b. b ≢ 10) 100 [] (λ e. absurd (omega (arith, e))) (All-nil (λ b. b ≢ 10))))

pub wrote_end : (T : NamedTask) (text : List ℕ) (n : ℕ) (told : Progress) → Wrote T text n told → told.due ≡ End → Certifies T (text ++ (codes "end" ++ 10 ∷ [])) told.bound
wrote_end T text n told w due =
    let next : Progress = record told { due = Nothing } in
    let takes : Takes T told (codes "end") [] next = subst (λ d. TakesAt d T told (codes "end") [] next) (sym due) (refl, refl, refl) in
    record { lines = suc n; told = next; keeps = more (codes "end") [] next (w (codes "end" ++ 10 ∷ [])) end_line takes; done = refl; bound_is = refl }
