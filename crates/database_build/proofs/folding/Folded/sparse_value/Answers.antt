use Rattle.std.proofs.Common.{arith, inl, sym, ◌∙◌}
use Rattle.database_build.proofs.FoldLemmas.{IsRead, byte_read, bytes_size, no_view_read, none_past, sparse_read, word_read, words_size}
use Rattle.database_build.proofs.folding.Folded.sparse_value.Goals.{in-Bytes+in_ok-get-in-Bytes, in-Words+in_ok-value-in-Words}
use Rattle.database_build.proofs.folding.Folded.sparse_value.Goals as goal

pub returns-in_err-get-in-Bytes-clause-none : goal.returns-in_err-get-in-Bytes-clause-none
returns-in_err-get-in-Bytes-clause-none c =
    let size = bytes_size c.self.inside.group c.self.inside.entries c.self.invariant.1 c.deref.result.now c.in-Bytes.bytes c.in-Bytes.is c.deref.ensures.value in
    none_past c.args.self.now c.self.inside.group c.self.inside.entries c.self.view_is c.self.invariant.1 c.args.sparse c.from_residual.result c.from_residual.ensures (omega (arith, size, c.in_err-get-in-Bytes.ensures.lookup.3))

pub returns-in_err-value-in-Words-clause-none : goal.returns-in_err-value-in-Words-clause-none
returns-in_err-value-in-Words-clause-none c =
    let size = words_size c.self.inside.group c.self.inside.entries c.self.invariant.1 c.deref-in-Words.result.now c.in-Words.words c.in-Words.is c.deref-in-Words.ensures.value in
    none_past c.args.self.now c.self.inside.group c.self.inside.entries c.self.view_is c.self.invariant.1 c.args.sparse c.from_residual-in_err-value-in-Words.result c.from_residual-in_err-value-in-Words.ensures (omega (arith, size, c.in_err-value-in-Words.ensures.lookup.3))

-- what was read, where it says that there is no value
read_none : (c : goal.Then-value) → IsRead c.self.inside.group c.self.inside.entries c.args.sparse c.match-self.value
read_none c =
    elim c.match-self.branch [
      | in-Bytes+in_ok-get-in-Bytes w ↦
          (let found = w.in_ok-get-in-Bytes.ensures.lookup.3 in
          let size = bytes_size c.self.inside.group c.self.inside.entries c.self.invariant.1 w.deref.result.now w.in-Bytes.bytes w.in-Bytes.is w.deref.ensures.value in
          byte_read c.self.inside.group c.self.inside.entries c.self.invariant.1 w.deref.result.now c.args.sparse (omega (arith, size, found.0)) w.in-Bytes.bytes w.in_ok-get-in-Bytes.field-0.now c.match-self.value
          w.in-Bytes.is w.deref.ensures.value (found.1 w.in_ok-get-in-Bytes.field-0.now) (w.value-is ∙ w.widened-value.ensures))
      | in-Words+in_ok-value-in-Words w ↦
          (let found = w.in_ok-value-in-Words.ensures.lookup.3 in
          let size = words_size c.self.inside.group c.self.inside.entries c.self.invariant.1 w.deref-in-Words.result.now w.in-Words.words w.in-Words.is w.deref-in-Words.ensures.value in
          word_read c.self.inside.group c.self.inside.entries c.self.invariant.1 w.deref-in-Words.result.now c.args.sparse (omega (arith, size, found.0)) w.in-Words.words c.match-self.value
          w.in-Words.is w.deref-in-Words.ensures.value (w.value-is ∙ found.1 c.match-self.value))
    ]

-- and where it is one
read_value : (c : goal.Else-value) → IsRead c.self.inside.group c.self.inside.entries c.args.sparse c.match-self.value
read_value c =
    elim c.match-self.branch [
      | in-Bytes+in_ok-get-in-Bytes w ↦
          (let found = w.in_ok-get-in-Bytes.ensures.lookup.3 in
          let size = bytes_size c.self.inside.group c.self.inside.entries c.self.invariant.1 w.deref.result.now w.in-Bytes.bytes w.in-Bytes.is w.deref.ensures.value in
          byte_read c.self.inside.group c.self.inside.entries c.self.invariant.1 w.deref.result.now c.args.sparse (omega (arith, size, found.0)) w.in-Bytes.bytes w.in_ok-get-in-Bytes.field-0.now c.match-self.value
          w.in-Bytes.is w.deref.ensures.value (found.1 w.in_ok-get-in-Bytes.field-0.now) (w.value-is ∙ w.widened-value.ensures))
      | in-Words+in_ok-value-in-Words w ↦
          (let found = w.in_ok-value-in-Words.ensures.lookup.3 in
          let size = words_size c.self.inside.group c.self.inside.entries c.self.invariant.1 w.deref-in-Words.result.now w.in-Words.words w.in-Words.is w.deref-in-Words.ensures.value in
          word_read c.self.inside.group c.self.inside.entries c.self.invariant.1 w.deref-in-Words.result.now c.args.sparse (omega (arith, size, found.0)) w.in-Words.words c.match-self.value
          w.in-Words.is w.deref-in-Words.ensures.value (w.value-is ∙ found.1 c.match-self.value))
    ]

pub returns-then-value-clause-none : goal.returns-then-value-clause-none
returns-then-value-clause-none c = λ v view there. inl (sym (sparse_read c.args.self.now c.self.inside.group c.self.inside.entries c.self.view_is c.self.invariant.1 c.args.sparse c.match-self.value (read_none c) v view there) ∙ c.if-value.true)

pub returns-clause-some : goal.returns-clause-some
returns-clause-some c = sparse_read c.args.self.now c.self.inside.group c.self.inside.entries c.self.view_is c.self.invariant.1 c.args.sparse c.match-self.value (read_value c)

pub returns-clause-others : goal.returns-clause-others
returns-clause-others c none = absurd (c.if-value.false (no_view_read c.args.self.now c.self.inside.group c.self.inside.entries c.self.view_is c.self.invariant.1 c.args.sparse c.match-self.value (read_value c) none))
