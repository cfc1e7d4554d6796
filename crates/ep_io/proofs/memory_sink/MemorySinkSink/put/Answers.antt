use Rattle.std.proofs.Common.{inl, inr, refl, ap, ◌∙◌, not, length, arith}
use Rattle.ep_io.specs.MemorySink.{kept_next, room_of}
use Rattle.ep_io.proofs.SinkLemmas.{fault_here, no_failure, has_fault}
use Rattle.ep_io.proofs.memory_sink.MemorySinkSink.put.Goals as goal
use Rattle.ep_io.proofs.memory_sink.MemorySinkSink.put.Goals.{else-is_none-via-then-is_none+else-bytes-room, else-is_none-via-else-is_none}

pub returns-then-bytes-room-clause-fails : goal.returns-then-bytes-room-clause-fails
returns-then-bytes-room-clause-fails c =
    let s = c.args.self.now in
    let none = fault_here c.kept_at-kept.result _ s.failing c.min-number.result _ _ c.kept_at-kept.ensures c.as_slice.ensures (c.min-number.ensures ∙ rw c.from.ensures refl) (c.is_none.ensures ∙ ap not c.if-is_none.true) in
    (λ e. absurd (cc e), λ h. absurd (no_failure (kept_next s) (room_of s) (length c.args.bytes.now) none (omega (arith, c.if-bytes-room.true, c.len.ensures, s.bytes.ok)) h))

pub returns-clause-fails : goal.returns-clause-fails
returns-clause-fails c =
    let s = c.args.self.now in (
      λ _. elim c.else-is_none.branch [
        | else-is_none-via-then-is_none+else-bytes-room w ↦ inr (omega (arith, w.if-bytes-room.false, c.len.ensures, s.bytes.ok))
        | else-is_none-via-else-is_none w ↦ inl (has_fault (kept_next s) (fault_here c.kept_at-kept.result _ s.failing c.min-number.result _ _ c.kept_at-kept.ensures c.as_slice.ensures (c.min-number.ensures ∙ rw c.from.ensures refl) (c.is_none.ensures ∙ ap not w.if-is_none.false)))
      ],
      λ _. refl,
    )
