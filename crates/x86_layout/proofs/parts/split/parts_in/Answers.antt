use Rattle.std.proofs.Common.{ℕ, length, ap, arith, length-append, ◌∙◌}
use Rattle.x86_layout.proofs.PartLemmas.Places.{escape_cut, fields_cut, head_cut, opcode_cut, suffix_cut, suffix_long}
use Rattle.x86_layout.proofs.PartLemmas.OfBytes.{as_first, there_in}
use Rattle.x86_layout.proofs.parts.split.parts_in.Goals as goal

pub overflow_sub-last : goal.overflow_sub-last
overflow_sub-last c =
    let w = c.requires.is.whole in
    let are = c.places-places.ensures ∙ ap (λ i. i.places) c.requires.is.yields in
    let n_is = c.from-opcode_end.ensures in
    let fields = fields_cut w are n_is (c.split_at.ensures.back ∙ (head_cut w are n_is).1) c.from.ensures in
    let last = ap length (c.split_at-4.ensures.back ∙ fields.1) in
    omega (arith, length-append {A = ℕ}, last, suffix_long w are c.from-2.ensures)

pub returns : goal.returns
returns c = λ strict is.
    let w = is.whole in
    let are = c.places-places.ensures ∙ ap (λ i. i.places) is.yields in
    let n_is = c.from-opcode_end.ensures in
    let head = head_cut w are n_is in
    let opcode = opcode_cut w are n_is (c.split_at.ensures.front ∙ head.0) in
    let before = c.split_at-2.ensures.front ∙ opcode.0 in
    let escape = escape_cut w are before (c.escape_at_end.ensures.escape w.run w.map w.prefixes before) in
    let fields = fields_cut w are n_is (c.split_at.ensures.back ∙ head.1) c.from.ensures in
    let suffix = suffix_cut w are (c.split_at-4.ensures.back ∙ fields.1) c.from-2.ensures in
    let tail = w.row_spelled.tail_spelled in
    let spelled = as_first _ _ _ _ _ (there_in w) tail.pieces.address_spelled in
    let address = c.split_address.ensures _ _ _ _ _ w.row_spelled.modrm_length spelled (c.split_at-4.ensures.front ∙ fields.0) in
    record {
      prefixes = c.split_at-3.ensures.front ∙ escape.0;
      escape = c.split_at-3.ensures.back ∙ escape.1;
      opcode = c.split_at-2.ensures.back ∙ opcode.1;
      modrm = address.0;
      sib = address.1;
      address = address.2;
      immediate = c.split_at-5.ensures.front ∙ suffix.0;
      suffix = c.split_at-5.ensures.back ∙ suffix.1;
    }
