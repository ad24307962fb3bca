use Rattle.std.proofs.Common.{◌≡◌, ◌≤◌, ◌<◌, ◌+◌, List, ℕ, ◌++◌, take, length, slice_range, slice_index_or, arith, ap, sym, ◌∙◌, append_assoc}
use Rattle.json.specs.Print.{escape, escape_byte}
use Rattle.json_write.proofs.Strings.{escape_range, escape_more}
use Rattle.json_write.proofs.text.put_inside.Goals as goal

-- the run of plain bytes is put
run_put : (old text next bytes : List ℕ) (at end : ℕ) → at ≤ end → end ≤ length bytes → escape (slice_range bytes at end) ≡ slice_range bytes at end → text ≡ old ++ escape (take at bytes) → next ≡ text ++ slice_range bytes at end → next ≡ old ++ escape (take end bytes)
run_put old text next bytes at end after within plain e f =
    f ∙ ap (λ (t : List ℕ). t ++ slice_range bytes at end) e ∙ append_assoc old (escape (take at bytes)) (slice_range bytes at end) ∙ ap (λ (t : List ℕ). old ++ t) (sym (escape_range bytes at end after within plain))

byte_put : (old text next bytes : List ℕ) (at : ℕ) → at < length bytes → text ≡ old ++ escape (take at bytes) → next ≡ text ++ escape_byte (slice_index_or bytes at 0) → next ≡ old ++ escape (take (at + 1) bytes)
byte_put old text next bytes at lt e f =
    f ∙ ap (λ (t : List ℕ). t ++ escape_byte (slice_index_or bytes at 0)) e ∙ append_assoc old (escape (take at bytes)) (escape_byte (slice_index_or bytes at 0)) ∙ ap (λ (t : List ℕ). old ++ t) (sym (escape_more bytes at lt))

pub loop-at-preserved-then-at-bytes : goal.loop-at-preserved-then-at-bytes
loop-at-preserved-then-at-bytes c =
    let bytes = c.args.bytes.now in
    let end = c.plain_end-end.ensures in
    let run = run_put c.args.text.now c.loop-at.text c.extend.new.self bytes c.loop-at.at c.plain_end-end.result end.after end.within end.plain c.loop-at.invariant.put c.in_ok-extend.ensures.ok in
    record {
      within = omega arith;
      put = byte_put c.args.text.now c.extend.new.self c.put_byte.new.text bytes c.plain_end-end.result c.if-at-bytes.true run c.in_ok-put_byte.ensures.ok;
    }

pub loop-at-preserved : goal.loop-at-preserved
loop-at-preserved c =
    let end = c.plain_end-end.ensures in
    record {
      within = end.within;
      put = run_put c.args.text.now c.loop-at.text c.extend.new.self c.args.bytes.now c.loop-at.at c.plain_end-end.result end.after end.within end.plain c.loop-at.invariant.put c.in_ok-extend.ensures.ok;
    }
