use Rattle.std.proofs.Common.{◌≡◌, ◌+◌, Some, None, map, slice_index, get_or, refl, ap, sym, subst, ◌∙◌}
use Rattle.ep_theory.proofs.CallerLemmas.{IsIn-at}
use Rattle.ep_apart.specs.declared.lines.Side.{Side}
use Rattle.ep_apart.specs.Tables.{AreTold, IsMissing}
use Rattle.ep_apart.proofs.ApartLemmas.{first_below, second_below, told_first, told_second, differ_first, differ_second, not_told}
use Rattle.ep_apart.proofs.apart.tell_by_classes.Goals as goal

pub told_from-requires-clause-worlds : goal.told_from-requires-clause-worlds
told_from-requires-clause-worlds c =
    let S = c.args.s.now in
    let T = c.args.t.now in
    let cs = c.args.classes.now in
    let s = c.designated.ensures.valid in
    let t = c.designated-2.ensures.valid in
    let xs = c.in_ok-firsts.firsts.items in
    let ys = c.in_ok-seconds.seconds.items in
    let d : xs ≡ map (λ w. slice_index cs (0 + w)) S.designated = c.in_ok-firsts.ensures ∙ ap (map (λ w. slice_index cs (0 + w))) c.designated.ensures.value in
    let e : ys ≡ map (λ v. slice_index cs (S.worlds + v)) T.designated = c.in_ok-seconds.ensures ∙ ap (λ n. map (λ w. slice_index cs (n + w)) c.designated-2.result.now) c.worlds.ensures.value ∙ ap (map (λ v. slice_index cs (S.worlds + v))) c.designated-2.ensures.value in
    λ k x l. first_below S T c.args.q.now s t cs c.requires.joint c.deref-in-Some.result.now (c.deref-in-Some.ensures.value ∙ d) (get_or c.deref-in-Some.result.now k x) (IsIn-at c.deref-in-Some.result.now k x l)

pub told_from-requires-clause-others : goal.told_from-requires-clause-others
told_from-requires-clause-others c =
    let S = c.args.s.now in
    let T = c.args.t.now in
    let cs = c.args.classes.now in
    let s = c.designated.ensures.valid in
    let t = c.designated-2.ensures.valid in
    let xs = c.in_ok-firsts.firsts.items in
    let ys = c.in_ok-seconds.seconds.items in
    let d : xs ≡ map (λ w. slice_index cs (0 + w)) S.designated = c.in_ok-firsts.ensures ∙ ap (map (λ w. slice_index cs (0 + w))) c.designated.ensures.value in
    let e : ys ≡ map (λ v. slice_index cs (S.worlds + v)) T.designated = c.in_ok-seconds.ensures ∙ ap (λ n. map (λ w. slice_index cs (n + w)) c.designated-2.result.now) c.worlds.ensures.value ∙ ap (map (λ v. slice_index cs (S.worlds + v))) c.designated-2.ensures.value in
    λ k x l. second_below S T c.args.q.now s t cs c.requires.joint c.deref-in-Some-2.result.now (c.deref-in-Some-2.ensures.value ∙ e) (get_or c.deref-in-Some-2.result.now k x) (IsIn-at c.deref-in-Some-2.result.now k x l)

pub told_from-requires-clause-missing : goal.told_from-requires-clause-missing
told_from-requires-clause-missing c =
    let S = c.args.s.now in
    let T = c.args.t.now in
    let cs = c.args.classes.now in
    let s = c.designated.ensures.valid in
    let t = c.designated-2.ensures.valid in
    let xs = c.in_ok-firsts.firsts.items in
    let ys = c.in_ok-seconds.seconds.items in
    let d : xs ≡ map (λ w. slice_index cs (0 + w)) S.designated = c.in_ok-firsts.ensures ∙ ap (map (λ w. slice_index cs (0 + w))) c.designated.ensures.value in
    let e : ys ≡ map (λ v. slice_index cs (S.worlds + v)) T.designated = c.in_ok-seconds.ensures ∙ ap (λ n. map (λ w. slice_index cs (n + w)) c.designated-2.result.now) c.worlds.ensures.value ∙ ap (map (λ v. slice_index cs (S.worlds + v))) c.designated-2.ensures.value in
    let m : IsMissing xs ys (Some c.in-Some.c) = subst (λ l. IsMissing xs l (Some c.in-Some.c)) c.deref-2.ensures.value (subst (λ l. IsMissing l c.deref-2.result.now (Some c.in-Some.c)) c.deref.ensures.value (subst (IsMissing c.deref.result.now c.deref-2.result.now) c.in-Some.is c.missing.ensures)) in
    subst (λ l. IsMissing l c.deref-in-Some-2.result.now (Some c.in-Some.c)) (sym c.deref-in-Some.ensures.value) (subst (λ l. IsMissing xs l (Some c.in-Some.c)) (sym c.deref-in-Some-2.ensures.value) m)

pub returns-in-Some-clause-same : goal.returns-in-Some-clause-same
returns-in-Some-clause-same c =
    let S = c.args.s.now in
    let T = c.args.t.now in
    let cs = c.args.classes.now in
    let s = c.designated.ensures.valid in
    let t = c.designated-2.ensures.valid in
    let xs = c.in_ok-firsts.firsts.items in
    let ys = c.in_ok-seconds.seconds.items in
    let d : xs ≡ map (λ w. slice_index cs (0 + w)) S.designated = c.in_ok-firsts.ensures ∙ ap (map (λ w. slice_index cs (0 + w))) c.designated.ensures.value in
    let e : ys ≡ map (λ v. slice_index cs (S.worlds + v)) T.designated = c.in_ok-seconds.ensures ∙ ap (λ n. map (λ w. slice_index cs (n + w)) c.designated-2.result.now) c.worlds.ensures.value ∙ ap (map (λ v. slice_index cs (S.worlds + v))) c.designated-2.ensures.value in
    let m : IsMissing xs ys (Some c.in-Some.c) = subst (λ l. IsMissing xs l (Some c.in-Some.c)) c.deref-2.ensures.value (subst (λ l. IsMissing l c.deref-2.result.now (Some c.in-Some.c)) c.deref.ensures.value (subst (IsMissing c.deref.result.now c.deref-2.result.now) c.in-Some.is c.missing.ensures)) in
    differ_first S T c.args.q.now s t cs c.requires.joint (record { side = Side.First; lines = c.in_ok-lines.lines }) xs ys c.in-Some.c d e m

pub returns-in-Some-clause-apart : goal.returns-in-Some-clause-apart
returns-in-Some-clause-apart c =
    let S = c.args.s.now in
    let T = c.args.t.now in
    let cs = c.args.classes.now in
    let s = c.designated.ensures.valid in
    let t = c.designated-2.ensures.valid in
    let xs = c.in_ok-firsts.firsts.items in
    let ys = c.in_ok-seconds.seconds.items in
    let d : xs ≡ map (λ w. slice_index cs (0 + w)) S.designated = c.in_ok-firsts.ensures ∙ ap (map (λ w. slice_index cs (0 + w))) c.designated.ensures.value in
    let e : ys ≡ map (λ v. slice_index cs (S.worlds + v)) T.designated = c.in_ok-seconds.ensures ∙ ap (λ n. map (λ w. slice_index cs (n + w)) c.designated-2.result.now) c.worlds.ensures.value ∙ ap (map (λ v. slice_index cs (S.worlds + v))) c.designated-2.ensures.value in
    let a = subst (λ l. AreTold c.args.q.now l ys c.in_ok-lines.lines) c.deref-in-Some.ensures.value (subst (λ l. AreTold c.args.q.now c.deref-in-Some.result.now l c.in_ok-lines.lines) c.deref-in-Some-2.ensures.value c.in_ok-lines.ensures) in
    told_first S T c.args.q.now s t cs c.requires.joint c.in_ok-lines.lines xs ys a.world d e a.missing a.told

pub told_from-requires-in-Some-missing-clause-worlds : goal.told_from-requires-in-Some-missing-clause-worlds
told_from-requires-in-Some-missing-clause-worlds c =
    let S = c.args.s.now in
    let T = c.args.t.now in
    let cs = c.args.classes.now in
    let s = c.designated.ensures.valid in
    let t = c.designated-2.ensures.valid in
    let xs = c.in_ok-firsts.firsts.items in
    let ys = c.in_ok-seconds.seconds.items in
    let d : xs ≡ map (λ w. slice_index cs (0 + w)) S.designated = c.in_ok-firsts.ensures ∙ ap (map (λ w. slice_index cs (0 + w))) c.designated.ensures.value in
    let e : ys ≡ map (λ v. slice_index cs (S.worlds + v)) T.designated = c.in_ok-seconds.ensures ∙ ap (λ n. map (λ w. slice_index cs (n + w)) c.designated-2.result.now) c.worlds.ensures.value ∙ ap (map (λ v. slice_index cs (S.worlds + v))) c.designated-2.ensures.value in
    λ k x l. second_below S T c.args.q.now s t cs c.requires.joint c.deref-in-Some-missing.result.now (c.deref-in-Some-missing.ensures.value ∙ e) (get_or c.deref-in-Some-missing.result.now k x) (IsIn-at c.deref-in-Some-missing.result.now k x l)

pub told_from-requires-in-Some-missing-clause-others : goal.told_from-requires-in-Some-missing-clause-others
told_from-requires-in-Some-missing-clause-others c =
    let S = c.args.s.now in
    let T = c.args.t.now in
    let cs = c.args.classes.now in
    let s = c.designated.ensures.valid in
    let t = c.designated-2.ensures.valid in
    let xs = c.in_ok-firsts.firsts.items in
    let ys = c.in_ok-seconds.seconds.items in
    let d : xs ≡ map (λ w. slice_index cs (0 + w)) S.designated = c.in_ok-firsts.ensures ∙ ap (map (λ w. slice_index cs (0 + w))) c.designated.ensures.value in
    let e : ys ≡ map (λ v. slice_index cs (S.worlds + v)) T.designated = c.in_ok-seconds.ensures ∙ ap (λ n. map (λ w. slice_index cs (n + w)) c.designated-2.result.now) c.worlds.ensures.value ∙ ap (map (λ v. slice_index cs (S.worlds + v))) c.designated-2.ensures.value in
    λ k x l. first_below S T c.args.q.now s t cs c.requires.joint c.deref-in-Some-missing-2.result.now (c.deref-in-Some-missing-2.ensures.value ∙ d) (get_or c.deref-in-Some-missing-2.result.now k x) (IsIn-at c.deref-in-Some-missing-2.result.now k x l)

pub told_from-requires-in-Some-missing-clause-missing : goal.told_from-requires-in-Some-missing-clause-missing
told_from-requires-in-Some-missing-clause-missing c =
    let S = c.args.s.now in
    let T = c.args.t.now in
    let cs = c.args.classes.now in
    let s = c.designated.ensures.valid in
    let t = c.designated-2.ensures.valid in
    let xs = c.in_ok-firsts.firsts.items in
    let ys = c.in_ok-seconds.seconds.items in
    let d : xs ≡ map (λ w. slice_index cs (0 + w)) S.designated = c.in_ok-firsts.ensures ∙ ap (map (λ w. slice_index cs (0 + w))) c.designated.ensures.value in
    let e : ys ≡ map (λ v. slice_index cs (S.worlds + v)) T.designated = c.in_ok-seconds.ensures ∙ ap (λ n. map (λ w. slice_index cs (n + w)) c.designated-2.result.now) c.worlds.ensures.value ∙ ap (map (λ v. slice_index cs (S.worlds + v))) c.designated-2.ensures.value in
    let m : IsMissing ys xs (Some c.in-Some-missing.c) = subst (λ l. IsMissing ys l (Some c.in-Some-missing.c)) c.deref-4.ensures.value (subst (λ l. IsMissing l c.deref-4.result.now (Some c.in-Some-missing.c)) c.deref-3.ensures.value (subst (IsMissing c.deref-3.result.now c.deref-4.result.now) c.in-Some-missing.is c.missing-2.ensures)) in
    subst (λ l. IsMissing l c.deref-in-Some-missing-2.result.now (Some c.in-Some-missing.c)) (sym c.deref-in-Some-missing.ensures.value) (subst (λ l. IsMissing ys l (Some c.in-Some-missing.c)) (sym c.deref-in-Some-missing-2.ensures.value) m)

pub returns-in-Some-missing-clause-same : goal.returns-in-Some-missing-clause-same
returns-in-Some-missing-clause-same c =
    let S = c.args.s.now in
    let T = c.args.t.now in
    let cs = c.args.classes.now in
    let s = c.designated.ensures.valid in
    let t = c.designated-2.ensures.valid in
    let xs = c.in_ok-firsts.firsts.items in
    let ys = c.in_ok-seconds.seconds.items in
    let d : xs ≡ map (λ w. slice_index cs (0 + w)) S.designated = c.in_ok-firsts.ensures ∙ ap (map (λ w. slice_index cs (0 + w))) c.designated.ensures.value in
    let e : ys ≡ map (λ v. slice_index cs (S.worlds + v)) T.designated = c.in_ok-seconds.ensures ∙ ap (λ n. map (λ w. slice_index cs (n + w)) c.designated-2.result.now) c.worlds.ensures.value ∙ ap (map (λ v. slice_index cs (S.worlds + v))) c.designated-2.ensures.value in
    let m : IsMissing ys xs (Some c.in-Some-missing.c) = subst (λ l. IsMissing ys l (Some c.in-Some-missing.c)) c.deref-4.ensures.value (subst (λ l. IsMissing l c.deref-4.result.now (Some c.in-Some-missing.c)) c.deref-3.ensures.value (subst (IsMissing c.deref-3.result.now c.deref-4.result.now) c.in-Some-missing.is c.missing-2.ensures)) in
    differ_second S T c.args.q.now s t cs c.requires.joint (record { side = Side.Second; lines = c.in_ok-lines-2.lines }) xs ys c.in-Some-missing.c d e m

pub returns-in-Some-missing-clause-apart : goal.returns-in-Some-missing-clause-apart
returns-in-Some-missing-clause-apart c =
    let S = c.args.s.now in
    let T = c.args.t.now in
    let cs = c.args.classes.now in
    let s = c.designated.ensures.valid in
    let t = c.designated-2.ensures.valid in
    let xs = c.in_ok-firsts.firsts.items in
    let ys = c.in_ok-seconds.seconds.items in
    let d : xs ≡ map (λ w. slice_index cs (0 + w)) S.designated = c.in_ok-firsts.ensures ∙ ap (map (λ w. slice_index cs (0 + w))) c.designated.ensures.value in
    let e : ys ≡ map (λ v. slice_index cs (S.worlds + v)) T.designated = c.in_ok-seconds.ensures ∙ ap (λ n. map (λ w. slice_index cs (n + w)) c.designated-2.result.now) c.worlds.ensures.value ∙ ap (map (λ v. slice_index cs (S.worlds + v))) c.designated-2.ensures.value in
    let n : IsMissing xs ys None = subst (λ l. IsMissing xs l None) c.deref-2.ensures.value (subst (λ l. IsMissing l c.deref-2.result.now None) c.deref.ensures.value (subst (IsMissing c.deref.result.now c.deref-2.result.now) c.in_default.is c.missing.ensures)) in
    let a = subst (λ l. AreTold c.args.q.now l xs c.in_ok-lines-2.lines) c.deref-in-Some-missing.ensures.value (subst (λ l. AreTold c.args.q.now c.deref-in-Some-missing.result.now l c.in_ok-lines-2.lines) c.deref-in-Some-missing-2.ensures.value c.in_ok-lines-2.ensures) in
    told_second S T c.args.q.now s t cs c.requires.joint c.in_ok-lines-2.lines xs ys a.world d e n a.missing a.told

pub returns-clause-same : goal.returns-clause-same
returns-clause-same c =
    let S = c.args.s.now in
    let T = c.args.t.now in
    let cs = c.args.classes.now in
    let s = c.designated.ensures.valid in
    let t = c.designated-2.ensures.valid in
    let xs = c.in_ok-firsts.firsts.items in
    let ys = c.in_ok-seconds.seconds.items in
    let d : xs ≡ map (λ w. slice_index cs (0 + w)) S.designated = c.in_ok-firsts.ensures ∙ ap (map (λ w. slice_index cs (0 + w))) c.designated.ensures.value in
    let e : ys ≡ map (λ v. slice_index cs (S.worlds + v)) T.designated = c.in_ok-seconds.ensures ∙ ap (λ n. map (λ w. slice_index cs (n + w)) c.designated-2.result.now) c.worlds.ensures.value ∙ ap (map (λ v. slice_index cs (S.worlds + v))) c.designated-2.ensures.value in
    let n : IsMissing xs ys None = subst (λ l. IsMissing xs l None) c.deref-2.ensures.value (subst (λ l. IsMissing l c.deref-2.result.now None) c.deref.ensures.value (subst (IsMissing c.deref.result.now c.deref-2.result.now) c.in_default.is c.missing.ensures)) in
    let k : IsMissing ys xs None = subst (λ l. IsMissing ys l None) c.deref-4.ensures.value (subst (λ l. IsMissing l c.deref-4.result.now None) c.deref-3.ensures.value (subst (IsMissing c.deref-3.result.now c.deref-4.result.now) c.in_default-missing.is c.missing-2.ensures)) in
    not_told S T c.args.q.now s t cs c.requires.joint None refl xs ys d e n k
