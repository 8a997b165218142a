use Rattle.std.proofs.Common.{◌≡◌, ◌∷◌, [], ◌++◌, ◌∙◌, ap}
use Rattle.zr_cmd.proofs.Texts.{utf8_full}
use Rattle.zr_cmd.proofs.argv.full_word.Goals as goal

pub word_of-requires : goal.word_of-requires
word_of-requires c =
    let path = c.as_bytes.result.now in
    let name = c.args.name.now in
    let sign = c.args.sign in
    let whole : c.as_slice.result.now ≡ (path ++ sign ∷ []) ++ name =
    c.as_slice.ensures.value ∙ c.in_ok-extend_from_slice.ensures.items
    ∙ ap (λ l. l ++ name) (c.in_ok-push.ensures.items ∙ ap (λ l. l ++ sign ∷ []) c.in_ok-text.ensures.items) in
    let named = utf8_full path name sign 255 c.requires.sign (rw c.as_bytes.ensures.value c.as_bytes.ensures.name) c.requires.name in
    rw whole named
