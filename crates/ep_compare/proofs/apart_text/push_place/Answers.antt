-- The digits of a number are ASCII.
use Rattle.std.proofs.Common.{ℕ, List, IsTrue, sym, ◌∙◌, subst, arith}
use Rattle.std.specs.Char.{is_ascii}
use Rattle.std.specs.List.{list_all}
use Rattle.std.proofs.lemmas.Fmt.{IsAscii-decimal}
use Rattle.ep_base.proofs.AsciiLemmas.{passes}
use Rattle.ep_compare.proofs.apart_text.push_place.Goals as goal

pub push-requires : goal.push-requires
push-requires c = subst (λ (bytes : List ℕ). IsTrue (list_all is_ascii bytes)) (sym (c.as_str.ensures.value ∙ c.in_ok-digits.ensures.ok)) (passes _ (IsAscii-decimal c.args.place (omega arith)))
