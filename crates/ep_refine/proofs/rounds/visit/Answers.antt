use Rattle.std.proofs.Common.{◌≡◌, ◌<◌, ◌∷◌, [], ◌++◌, ◌+◌, ℕ, Bool, true, false, not, List, length, set, slice_index, subst, sym, ap, ◌∙◌, arith}
use Rattle.ep_refine.specs.Touching.{is_listed}
use Rattle.ep_refine.specs.declared.blocks.Blocks.{Blocks}
use Rattle.ep_refine.specs.Blocks.{AreBlocks, rank_of, start_of, end_of}
use Rattle.ep_refine.specs.Rounds.{Seen}
use Rattle.ep_refine.proofs.RestLemmas.{block_at, seen_same, seen_none, seen_some}
use Rattle.ep_refine.proofs.rounds.visit.Goals as goal

rank_within : (n : ℕ) (b : Blocks) (w v : ℕ) → AreBlocks n b → w < n → v ≡ w → rank_of b v < n
rank_within n b w v valid l e =
    let a = valid.parts.rank_end w l in let d = valid.parts.end_in w l in let q = ap (rank_of b) e in omega (arith, a, d, q)

pub returns-then-not-get : goal.returns-then-not-get
returns-then-not-get c = record {
  seen = λ ws i e h.
      let n = length c.args.b.now.order.items in
      let b = c.args.b.now in
      let rk : c.rank-block.result ≡ rank_of b (slice_index ws i) = c.rank-block.ensures ∙ ap (rank_of b) (sym e) in
      seen_same n b c.args.left.now ws c.args.unseen.now c.args.rests.now.items c.args.spans.now.items i h (rank_within n b c.args.w (slice_index ws i) c.requires.valid c.requires.world e)
      (subst (λ x. is_listed c.args.unseen.now x ≡ true) rk (ap not (sym c.get.ensures ∙ c.if-not-get.true)));
}

pub returns-in-None : goal.returns-in-None
returns-in-None c = record {
  seen = λ ws i e h.
      let n = length c.args.b.now.order.items in
      let b = c.args.b.now in
      let rk : c.rank-block.result ≡ rank_of b (slice_index ws i) = c.rank-block.ensures ∙ ap (rank_of b) (sym e) in
      let s = c.start.ensures ∙ ap (start_of b) (sym e) in
      let t = c.end.ensures ∙ ap (end_of b) (sym e) in
      let pair : (c.start.result, c.end.result) ≡ block_at b (slice_index ws i) = λ j. (s j, t j) in
      subst (λ (x : List Bool). Seen n b c.args.left.now ws x c.args.rests.now.items c.push.new.self.items (i + 1)) (sym (c.set.ensures ∙ ap (λ x. set c.args.unseen.now x false) rk))
      (subst (λ (x : List (ℕ × ℕ)). Seen n b c.args.left.now ws (set c.args.unseen.now (rank_of b (slice_index ws i)) false) c.args.rests.now.items x (i + 1)) (sym (◌∙◌ {A = List (ℕ × ℕ)} c.in_ok-push.ensures.items (ap {A = ℕ × ℕ} (λ p. c.args.spans.now.items ++ p ∷ []) pair)))
      (seen_none n b c.args.left.now ws c.args.unseen.now c.args.rests.now.items c.args.spans.now.items i h (rank_within n b c.args.w (slice_index ws i) c.requires.valid c.requires.world e)
      (subst (λ x. is_listed c.args.unseen.now x ≡ false) rk (ap not (sym c.get.ensures ∙ c.if-not-get.false)))
      (λ u l q. c.in-None.ensures u l (q ∙ ap (rank_of b) e))));
}

pub returns-in_ok-push-in-Some : goal.returns-in_ok-push-in-Some
returns-in_ok-push-in-Some c = record {
  seen = λ ws i e h.
      let n = length c.args.b.now.order.items in
      let b = c.args.b.now in
      let rk : c.rank-block.result ≡ rank_of b (slice_index ws i) = c.rank-block.ensures ∙ ap (rank_of b) (sym e) in
      let s = c.start.ensures ∙ ap (start_of b) (sym e) in
      let t = c.end.ensures ∙ ap (end_of b) (sym e) in
      let pair : (c.start.result, c.end.result) ≡ block_at b (slice_index ws i) = λ j. (s j, t j) in
      subst (λ (x : List Bool). Seen n b c.args.left.now ws x c.push-in-Some.new.self.items c.push.new.self.items (i + 1)) (sym (c.set.ensures ∙ ap (λ x. set c.args.unseen.now x false) rk))
      (subst (λ (x : List (ℕ × ℕ)). Seen n b c.args.left.now ws (set c.args.unseen.now (rank_of b (slice_index ws i)) false) c.push-in-Some.new.self.items x (i + 1)) (sym (◌∙◌ {A = List (ℕ × ℕ)} c.in_ok-push.ensures.items (ap {A = ℕ × ℕ} (λ p. c.args.spans.now.items ++ p ∷ []) pair)))
      (subst (λ (x : List ℕ). Seen n b c.args.left.now ws (set c.args.unseen.now (rank_of b (slice_index ws i)) false) x (c.args.spans.now.items ++ block_at b (slice_index ws i) ∷ []) (i + 1)) (sym c.in_ok-push-in-Some.ensures.items)
      (seen_some n b c.args.left.now ws c.args.unseen.now c.args.rests.now.items c.args.spans.now.items i h (rank_within n b c.args.w (slice_index ws i) c.requires.valid c.requires.world e)
      (subst (λ x. is_listed c.args.unseen.now x ≡ false) rk (ap not (sym c.get.ensures ∙ c.if-not-get.false)))
      c.in-Some.r c.in-Some.ensures.0 c.in-Some.ensures.1 (c.in-Some.ensures.2 ∙ ap (rank_of b) (sym e)))));
}
