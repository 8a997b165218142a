use Rattle.std.proofs.Common.{◌≡◌, ◌++◌, ◌∙◌, ap}
use Rattle.zr_names.specs.Marks.{tag_text}
use Rattle.zr_cmd.proofs.Texts.{utf8_tag}
use Rattle.zr_cmd.proofs.argv.tag_word.Goals as goal

pub word_of-requires : goal.word_of-requires
word_of-requires c =
    let whole : c.as_slice.result.now ≡ tag_text c.args.kind c.args.job.now =
    c.as_slice.ensures.value ∙ c.in_ok-extend_from_slice.ensures.items
    ∙ ap (λ l. l ++ c.as_bytes.result.now) (c.in_ok-text.ensures.items ∙ c.tag_front.ensures)
    ∙ ap (λ l. tag_text c.args.kind l) c.as_bytes.ensures.value in
    rw whole (utf8_tag c.args.kind c.args.job.now c.as_bytes.ensures.name)
