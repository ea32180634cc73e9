-- The texts of addresses, piece by piece.
use Rattle.std.proofs.Common.{◌≡◌, ℕ, List, [], ◌∷◌, ◌++◌, sym, ap, ap₂, ◌∙◌, append_assoc, append-nil, drop, codes, decimal}
use Rattle.std.specs.Net.Text.{dotted_text}
use Rattle.hex.specs.Hex.{encode_lower}
use Rattle.program_texts.specs.WrittenFacts.{colon_groups}

-- four numbers with dots between them
pub four_numbers : (a b c d : ℕ)
    → decimal a ++ (46 ∷ (decimal b ++ (46 ∷ (decimal c ++ (46 ∷ decimal d))))) ≡ dotted_text a b c d
four_numbers a b c d = simp append_assoc

-- a group after a colon, before others
group_then : (first digits rest more : List ℕ) → first ≡ digits → rest ≡ more → 58 ∷ (first ++ rest) ≡ 58 ∷ (digits ++ more)
group_then first digits rest more same later = ap₂ (λ x y. 58 ∷ (x ++ y)) same later

-- eight groups with colons between them
pub eight_groups : (a b c d e f g h i j k l m n o p : ℕ) (q r s t u v w x : List ℕ)
    → q ≡ encode_lower (a ∷ b ∷ []) → r ≡ encode_lower (c ∷ d ∷ []) → s ≡ encode_lower (e ∷ f ∷ []) → t ≡ encode_lower (g ∷ h ∷ [])
    → u ≡ encode_lower (i ∷ j ∷ []) → v ≡ encode_lower (k ∷ l ∷ []) → w ≡ encode_lower (m ∷ n ∷ []) → x ≡ encode_lower (o ∷ p ∷ [])
    → q ++ (58 ∷ (r ++ (58 ∷ (s ++ (58 ∷ (t ++ (58 ∷ (u ++ (58 ∷ (v ++ (58 ∷ (w ++ (58 ∷ x)))))))))))))
    ≡ drop 1 (colon_groups (a ∷ b ∷ c ∷ d ∷ e ∷ f ∷ g ∷ h ∷ i ∷ j ∷ k ∷ l ∷ m ∷ n ∷ o ∷ p ∷ []))
eight_groups a b c d e f g h i j k l m n o p q r s t u v w x q_is r_is s_is t_is u_is v_is w_is x_is =
    let at_x = ap (λ y. 58 ∷ y) (x_is ∙ sym (append-nil (encode_lower (o ∷ p ∷ [])))) in
    let at_w = group_then w (encode_lower (m ∷ n ∷ [])) _ _ w_is at_x in
    let at_v = group_then v (encode_lower (k ∷ l ∷ [])) _ _ v_is at_w in
    let at_u = group_then u (encode_lower (i ∷ j ∷ [])) _ _ u_is at_v in
    let at_t = group_then t (encode_lower (g ∷ h ∷ [])) _ _ t_is at_u in
    let at_s = group_then s (encode_lower (e ∷ f ∷ [])) _ _ s_is at_t in
    let at_r = group_then r (encode_lower (c ∷ d ∷ [])) _ _ r_is at_s in
    ap₂ (λ y z. y ++ z) q_is at_r

-- two times four groups
pub two_fours : (q r s t rest : List ℕ)
    → (q ++ (58 ∷ (r ++ (58 ∷ (s ++ (58 ∷ t)))))) ++ (58 ∷ rest) ≡ q ++ (58 ∷ (r ++ (58 ∷ (s ++ (58 ∷ (t ++ (58 ∷ rest)))))))
two_fours q r s t rest = simp append_assoc
