use Rattle.std.proofs.Common.{◌≡◌, ◌<◌, [], map, take, All, get_or}
use Rattle.ep_name.proofs.PrintLemmas.{opened}
use Rattle.ep_name.proofs.print.print_name.Given as goal

abbrev pub invariant-loop-place : goal.invariant-loop-place
invariant-loop-place l = record {
  value : l.text.items ≡ opened l.fn.name (map (λ o. get_or l.fn.names o []) (take l.place l.fn.objects));
  ascii : All (λ b. b < 128) l.text.items;
}
