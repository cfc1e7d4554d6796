use Rattle.std.proofs.Common.{◌≡◌, ◌++◌, length, map}
use Rattle.std.specs.List.{AllByRecursion}
use Rattle.ep_audit.specs.Lines.{field}
use Rattle.ep_audit.specs.Shown.{IsBelow}
use Rattle.ep_audit.proofs.FieldLemmas.{parts_of}
use Rattle.ep_audit.proofs.lines.map_fields.Given as goal

abbrev pub invariant-loop-first : goal.invariant-loop-first
invariant-loop-first l = record {
  parts : parts_of l.text ≡ map field l.fields ++ parts_of l.rest;
  below : AllByRecursion (IsBelow l.most) l.fields;
}

abbrev pub decreases-loop-first : goal.decreases-loop-first
decreases-loop-first l = length l.rest
