use Rattle.std.proofs.Common.{◌∙◌, List, ℕ, subst, sym}
use Rattle.zr_names.specs.Names.{IsName, token_is_bad}
use Rattle.zr_names.specs.declared.names.TheConstants.{TOKEN_LIMIT}
use Rattle.zr_world.proofs.Tokens.{token_text-IsName}
use Rattle.zr_world.proofs.pools.Partial.token.Goals as goal

pub new-requires : goal.new-requires
new-requires c =
    let same = c.in_ok-from_slice.ensures ∙ c.as_slice.ensures.value ∙ c.in_ok-text.ensures.value in
    let is_token : List ℕ → Type 0 = IsName token_is_bad TOKEN_LIMIT in
    subst is_token (sym same) (token_text-IsName c.args.self.now c.in_ok-text.ensures.source)
