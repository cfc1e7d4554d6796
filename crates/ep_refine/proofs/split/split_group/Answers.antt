use Rattle.std.proofs.Common.{◌≡◌, ◌<◌, ◌≤◌, ◌+◌, ◌-◌, inl, inr, ⊎_elim, length, slice_index, ap, sym, subst, ◌∙◌, arith}
use Rattle.std.specs.List.{slice_range}
use Rattle.ep_refine.specs.Blocks.{rank_of}
use Rattle.ep_refine.specs.Touching.{is_listed}
use Rattle.ep_refine.proofs.SliceLemmas.{slice_len, slice_at, in_slice, from_slice, slice_of_one, first_of_slice, not_in_slice}
use Rattle.ep_refine.proofs.BlockLemmas.{lt_or_le}
use Rattle.ep_refine.proofs.Sides.{last_group, front_group, back_group, ahead_together, block_class}
use Rattle.ep_refine.proofs.split.split_group.Goals as goal
use Rattle.ep_refine.proofs.split.split_group.Goals.{then-j-worlds-via-then-j-worlds, then-j-worlds-via-else-j-worlds+then-rank}

pub returns-then-j-worlds-clause-split : goal.returns-then-j-worlds-clause-split
returns-then-j-worlds-clause-split c = λ first g t suits turned group next refined.
    let n = length c.args.b.now.order.items in
    let ws = c.args.worlds.now in
    let i = c.args.i in
    let j = c.args.j in
    let inside : i < length ws = (let s = c.requires.some in let d = c.requires.inside in omega (arith, s, d)) in
    last_group n first g (is_listed c.args.left.now) ws suits t i turned inside j c.requires.some c.requires.inside group next (rank_of c.args.b.now) refined
    (λ b q. elim c.then-j-worlds.branch [
      | then-j-worlds-via-then-j-worlds w ↦ let h = w.if-j-worlds.true in omega (arith, h, b)
      | then-j-worlds-via-else-j-worlds+then-rank w ↦
          let h = w.if-rank.true in let x = w.rank.ensures in let y = w.rank-else-j-worlds.ensures in
          let e = ahead_together n first g (rank_of c.args.b.now) t (slice_index ws j) (slice_index ws i) refined (suits.within j b) (suits.within i inside) q (turned.ahead j (let s = c.requires.some in omega (arith, s)) b) (turned.ahead i (omega arith) inside) in
          omega (arith, e, h, x, y)
    ])

pub all_listed-requires : goal.all_listed-requires
all_listed-requires c = λ k l.
    let n = length c.args.b.now.order.items in
    let ws = c.args.worlds.now in
    let i = c.args.i in
    let j = c.args.j in
    let i_j : i ≤ j = (let s = c.requires.some in omega (arith, s)) in
    let e = slice_len ws i j i_j c.requires.inside in
    let b : k < j - i = omega (arith, e, l) in
    let d = c.requires.inside in
    let f = c.requires.within (i + k) (omega (arith, b, d)) in
    let a = slice_at ws i j i_j c.requires.inside k b in
    let m = c.requires.marks in
    omega (arith, f, a, m)

pub cut-requires-clause-one : goal.cut-requires-clause-one
cut-requires-clause-one c =
    let s = c.requires.some in
    slice_of_one c.args.worlds.now c.args.i c.args.j (omega (arith, s)) c.requires.inside (length c.args.b.now.order.items) (rank_of c.args.b.now) (rank_of c.args.b.now (slice_index c.args.worlds.now c.args.i)) c.requires.within c.requires.distinct c.requires.group

pub cut-requires-clause-left : goal.cut-requires-clause-left
cut-requires-clause-left c =
    let ws = c.args.worlds.now in
    let s = c.requires.some in
    let d = c.requires.inside in
    let k = c.if-j-worlds.false in
    let j_in : c.args.j < length ws = omega (arith, d, k) in
    let i_j : c.args.i ≤ c.args.j = omega (arith, s) in (
      slice_index ws c.args.j,
      c.requires.within c.args.j j_in,
      sym c.rank.ensures ∙ (let h = c.if-rank.false in omega (arith, h)) ∙ c.rank-else-j-worlds.ensures ∙ ap (rank_of c.args.b.now) (sym (first_of_slice ws c.args.i c.args.j i_j c.requires.inside c.requires.some)),
      not_in_slice ws c.args.i c.args.j i_j c.requires.inside c.requires.distinct c.args.j j_in (inr (omega arith)),
    )

pub cut-requires-2-clause-one : goal.cut-requires-2-clause-one
cut-requires-2-clause-one c =
    slice_of_one c.args.worlds.now c.args.j c.block_end-end.result c.block_end-end.ensures.from c.block_end-end.ensures.to (length c.args.b.now.order.items) (rank_of c.args.b.now) (rank_of c.args.b.now (slice_index c.args.worlds.now c.args.i)) c.requires.within c.requires.distinct c.block_end-end.ensures.these

pub cut-requires-2-clause-left : goal.cut-requires-2-clause-left
cut-requires-2-clause-left c =
    let ws = c.args.worlds.now in
    let s = c.requires.some in
    let d = c.requires.inside in
    let k = c.if-j-worlds.false in
    let inside : c.args.i < length ws = omega (arith, s, d) in
    let j_in : c.args.j < length ws = omega (arith, d, k) in
    let e = c.block_end-end.ensures in
    let h = c.if-rank.false in let x = c.rank.ensures in let y = c.rank-else-j-worlds.ensures in
    let same : rank_of c.args.b.now (slice_index ws c.args.j) ≡ rank_of c.args.b.now (slice_index ws c.args.i) = omega (arith, h, x, y) in
    let far = e.next in
    let from = e.from in
    let behind : c.args.j < c.block_end-end.result = ⊎_elim (λ (l : c.args.j < c.block_end-end.result). l) (λ (l : c.block_end-end.result ≤ c.args.j).
    let q : c.args.j ≡ c.block_end-end.result = omega (arith, l, from) in
    absurd (far (subst (λ z. z < length ws) q j_in) (subst (λ z. rank_of c.args.b.now (slice_index ws z) ≡ rank_of c.args.b.now (slice_index ws c.args.i)) q same))) (lt_or_le c.args.j c.block_end-end.result) in (
      slice_index ws c.args.i,
      c.requires.within c.args.i inside,
      sym same ∙ ap (rank_of c.args.b.now) (sym (first_of_slice ws c.args.j c.block_end-end.result e.from e.to behind)),
      not_in_slice ws c.args.j c.block_end-end.result e.from e.to c.requires.distinct c.args.i inside (inl s),
    )

pub returns-then-all_listed-clause-split : goal.returns-then-all_listed-clause-split
returns-then-all_listed-clause-split c = λ first g t suits turned group next refined.
    let n = length c.args.b.now.order.items in
    let ws = c.args.worlds.now in
    let i = c.args.i in
    let j = c.args.j in
    let s = c.requires.some in
    let d = c.requires.inside in
    let inside : i < length ws = omega (arith, s, d) in
    let i_j : i ≤ j = omega (arith, s) in
    front_group n first g (is_listed c.args.left.now) ws suits t i turned inside j c.requires.some c.requires.inside group next (rank_of c.args.b.now) (rank_of c.cut.new.b) (slice_range ws i j) refined
    (λ k f l.
    let e : i + (k - i) ≡ k = omega (arith, f) in
    let b : k - i < j - i = omega (arith, f, l) in
    ap (is_listed c.args.left.now) (sym (slice_at ws i j i_j c.requires.inside (k - i) b ∙ ap (slice_index ws) e)) ∙ c.if-all_listed.ensures (k - i) (let z = slice_len ws i j i_j c.requires.inside in omega (arith, z, b)))
    (in_slice ws i j i_j c.requires.inside) (from_slice ws i j i_j c.requires.inside) c.cut.ensures.ordered

pub returns-clause-split : goal.returns-clause-split
returns-clause-split c = λ first g t suits turned group next refined.
    let n = length c.args.b.now.order.items in
    let ws = c.args.worlds.now in
    let i = c.args.i in
    let j = c.args.j in
    let s = c.requires.some in
    let d = c.requires.inside in
    let m = c.block_end-end.result in
    let e = c.block_end-end.ensures in
    let inside : i < length ws = omega (arith, s, d) in
    let i_j : i ≤ j = omega (arith, s) in
    let k = c.if-all_listed.ensures in
    let z = slice_len ws i j i_j c.requires.inside in
    let k1 = k.1 in
    let b : k.0 < j - i = omega (arith, k1, z) in
    back_group n first g (is_listed c.args.left.now) ws suits t i turned inside j c.requires.some c.requires.inside group next (rank_of c.args.b.now) (rank_of c.cut-2.new.b) (slice_range ws j m) m e.from e.to refined
    (i + k.0) (omega arith) (omega (arith, b)) (ap (is_listed c.args.left.now) (sym (slice_at ws i j i_j c.requires.inside k.0 b)) ∙ k.2)
    (λ x f l. block_class n first g (rank_of c.args.b.now) t (slice_index ws x) (slice_index ws i) refined (suits.within x (let y = e.to in omega (arith, y, l))) (suits.within i inside) (e.these x f l))
    (λ l q. e.next l (ahead_together n first g (rank_of c.args.b.now) t (slice_index ws m) (slice_index ws i) refined (suits.within m l) (suits.within i inside) q (turned.ahead m (let f = e.from in omega (arith, f, i_j)) l) (turned.ahead i (omega arith) inside)))
    (in_slice ws j m e.from e.to) (from_slice ws j m e.from e.to) c.cut-2.ensures.ordered
