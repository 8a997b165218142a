use Rattle.std.proofs.Common.{◌≡◌, ◌∷◌, [], ◌++◌, ◌∙◌, ap}
use Rattle.std.specs.List.{join_with_byte}
use Rattle.zr_cmd.proofs.Texts.{utf8_group}
use Rattle.zr_cmd.proofs.argv.group_word.Goals as goal

pub word_of-requires : goal.word_of-requires
word_of-requires c =
    let path = c.as_bytes.result.now in
    let names = c.args.names.now in
    let whole : c.as_slice.result.now ≡ (path ++ 64 ∷ []) ++ join_with_byte 44 names =
    c.as_slice.ensures.value ∙ c.in_ok-push_names.ensures.text
    ∙ ap (λ l. l ++ join_with_byte 44 names) (c.in_ok-push.ensures.items ∙ ap (λ l. l ++ 64 ∷ []) c.in_ok-text.ensures.items) in
    let named = utf8_group path names (rw c.as_bytes.ensures.value c.as_bytes.ensures.name) c.in_ok-push_names.ensures.named.each in
    rw whole named
