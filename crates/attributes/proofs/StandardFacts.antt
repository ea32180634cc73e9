-- The examples of RFC 4291 sections 2.2 and 2.3, so that a wrong rule in the specs does not check.
use Rattle.std.proofs.Common.{◌≡◌, false, [], ◌∷◌, codes, inl, inr, refl, lit<, lit≤, true}
use Rattle.std.specs.Fmt.{digits}
use Rattle.std.specs.Net.Addr.{ipv4_bits, ipv6_bits}
use Rattle.std.specs.Net.Grammar.{IsGroup}
use Rattle.attributes.specs.Address.{IsIpText, share_prefix}
use Rattle.attributes.specs.declared.address.Ip.{Ip}
use Rattle.attributes.specs.declared.address.Ip.TheVariants.{V4, V6}

-- groups of the examples, each with its number
group_2001 : IsGroup (codes "2001") 8193
group_2001 = (((lit< tt, (lit< tt, (lit< tt, (lit< tt, (lit< tt, tt))))), refl), lit≤ tt)

group_db8 : IsGroup (codes "DB8") 3512
group_db8 = (((lit< tt, (lit< tt, (lit< tt, (lit< tt, tt)))), refl), lit≤ tt)

group_0 : IsGroup (codes "0") 0
group_0 = (((lit< tt, (lit< tt, tt)), refl), lit≤ tt)

group_8 : IsGroup (codes "8") 8
group_8 = (((lit< tt, (lit< tt, tt)), refl), lit≤ tt)

group_800 : IsGroup (codes "800") 2048
group_800 = (((lit< tt, (lit< tt, (lit< tt, (lit< tt, tt)))), refl), lit≤ tt)

group_200c : IsGroup (codes "200C") 8204
group_200c = (((lit< tt, (lit< tt, (lit< tt, (lit< tt, (lit< tt, tt))))), refl), lit≤ tt)

group_417a : IsGroup (codes "417A") 16762
group_417a = (((lit< tt, (lit< tt, (lit< tt, (lit< tt, (lit< tt, tt))))), refl), lit≤ tt)

group_ff01 : IsGroup (codes "FF01") 65281
group_ff01 = (((lit< tt, (lit< tt, (lit< tt, (lit< tt, (lit< tt, tt))))), refl), lit≤ tt)

group_101 : IsGroup (codes "101") 257
group_101 = (((lit< tt, (lit< tt, (lit< tt, (lit< tt, tt)))), refl), lit≤ tt)

group_1 : IsGroup (codes "1") 1
group_1 = (((lit< tt, (lit< tt, tt)), refl), lit≤ tt)

group_0db8 : IsGroup (codes "0DB8") 3512
group_0db8 = (((lit< tt, (lit< tt, (lit< tt, (lit< tt, (lit< tt, tt))))), refl), lit≤ tt)

group_cd30 : IsGroup (codes "CD30") 52528
group_cd30 = (((lit< tt, (lit< tt, (lit< tt, (lit< tt, (lit< tt, tt))))), refl), lit≤ tt)

group_123 : IsGroup (codes "123") 291
group_123 = (((lit< tt, (lit< tt, (lit< tt, (lit< tt, tt)))), refl), lit≤ tt)

group_4567 : IsGroup (codes "4567") 17767
group_4567 = (((lit< tt, (lit< tt, (lit< tt, (lit< tt, (lit< tt, tt))))), refl), lit≤ tt)

group_89ab : IsGroup (codes "89AB") 35243
group_89ab = (((lit< tt, (lit< tt, (lit< tt, (lit< tt, (lit< tt, tt))))), refl), lit≤ tt)

group_cdef : IsGroup (codes "CDEF") 52719
group_cdef = (((lit< tt, (lit< tt, (lit< tt, (lit< tt, (lit< tt, tt))))), refl), lit≤ tt)

-- the addresses of section 2.2, whole and with `::`, those of section 2.3, and a dotted quad
pub record AreAddresses : Type 0 where
  pub whole : IsIpText (codes "2001:DB8:0:0:8:800:200C:417A")
      (V6 42540766411282592856906245548098208122)
  pub multicast : IsIpText (codes "FF01:0:0:0:0:0:0:101")
      (V6 338958331222012082418099330867817087233)
  pub loopback : IsIpText (codes "0:0:0:0:0:0:0:1")
      (V6 1)
  pub unspecified : IsIpText (codes "0:0:0:0:0:0:0:0")
      (V6 0)
  pub whole_short : IsIpText (codes "2001:DB8::8:800:200C:417A")
      (V6 42540766411282592856906245548098208122)
  pub multicast_short : IsIpText (codes "FF01::101")
      (V6 338958331222012082418099330867817087233)
  pub loopback_short : IsIpText (codes "::1")
      (V6 1)
  pub unspecified_short : IsIpText (codes "::")
      (V6 0)
  pub prefix : IsIpText (codes "2001:0DB8:0:CD30::")
      (V6 42540766411283561827476688766981111808)
  pub node : IsIpText (codes "2001:0DB8:0:CD30:123:4567:89AB:CDEF")
      (V6 42540766411283561827558674296197598703)
  pub other : IsIpText (codes "2001:0DB8::CD30")
      (V6 42540766411282592856903984951653879088)
  pub dotted : IsIpText (codes "13.1.68.3") (V4 218186755)

pub addresses : AreAddresses
unfolding digits ipv4_bits ipv6_bits
addresses = record {
  whole = (
    record { segments = 8193 ∷ 3512 ∷ 0 ∷ 0 ∷ 8 ∷ 2048 ∷ 8204 ∷ 16762 ∷ [] },
    inl (
      inl (
        codes "2001",
        codes ":DB8:0:0:8:800:200C:417A",
        refl,
        group_2001,
        inl (
          codes "DB8",
          codes ":0:0:8:800:200C:417A",
          refl,
          group_db8,
          inl (
            codes "0",
            codes ":0:8:800:200C:417A",
            refl,
            group_0,
            inl (
              codes "0",
              codes ":8:800:200C:417A",
              refl,
              group_0,
              inl (
                codes "8",
                codes ":800:200C:417A",
                refl,
                group_8,
                inl (
                  codes "800",
                  codes ":200C:417A",
                  refl,
                  group_800,
                  inl (
                    codes "200C",
                    codes ":417A",
                    refl,
                    group_200c,
                    inl (
                      codes "417A",
                      codes "",
                      refl,
                      group_417a,
                      refl,
                    ),
                  ),
                ),
              ),
            ),
          ),
        ),
      ),
      refl,
    ),
    refl,
    refl,
  );
  multicast = (
    record { segments = 65281 ∷ 0 ∷ 0 ∷ 0 ∷ 0 ∷ 0 ∷ 0 ∷ 257 ∷ [] },
    inl (
      inl (
        codes "FF01",
        codes ":0:0:0:0:0:0:101",
        refl,
        group_ff01,
        inl (
          codes "0",
          codes ":0:0:0:0:0:101",
          refl,
          group_0,
          inl (
            codes "0",
            codes ":0:0:0:0:101",
            refl,
            group_0,
            inl (
              codes "0",
              codes ":0:0:0:101",
              refl,
              group_0,
              inl (
                codes "0",
                codes ":0:0:101",
                refl,
                group_0,
                inl (
                  codes "0",
                  codes ":0:101",
                  refl,
                  group_0,
                  inl (
                    codes "0",
                    codes ":101",
                    refl,
                    group_0,
                    inl (
                      codes "101",
                      codes "",
                      refl,
                      group_101,
                      refl,
                    ),
                  ),
                ),
              ),
            ),
          ),
        ),
      ),
      refl,
    ),
    refl,
    refl,
  );
  loopback = (
    record { segments = 0 ∷ 0 ∷ 0 ∷ 0 ∷ 0 ∷ 0 ∷ 0 ∷ 1 ∷ [] },
    inl (
      inl (
        codes "0",
        codes ":0:0:0:0:0:0:1",
        refl,
        group_0,
        inl (
          codes "0",
          codes ":0:0:0:0:0:1",
          refl,
          group_0,
          inl (
            codes "0",
            codes ":0:0:0:0:1",
            refl,
            group_0,
            inl (
              codes "0",
              codes ":0:0:0:1",
              refl,
              group_0,
              inl (
                codes "0",
                codes ":0:0:1",
                refl,
                group_0,
                inl (
                  codes "0",
                  codes ":0:1",
                  refl,
                  group_0,
                  inl (
                    codes "0",
                    codes ":1",
                    refl,
                    group_0,
                    inl (
                      codes "1",
                      codes "",
                      refl,
                      group_1,
                      refl,
                    ),
                  ),
                ),
              ),
            ),
          ),
        ),
      ),
      refl,
    ),
    refl,
    refl,
  );
  unspecified = (
    record { segments = 0 ∷ 0 ∷ 0 ∷ 0 ∷ 0 ∷ 0 ∷ 0 ∷ 0 ∷ [] },
    inl (
      inl (
        codes "0",
        codes ":0:0:0:0:0:0:0",
        refl,
        group_0,
        inl (
          codes "0",
          codes ":0:0:0:0:0:0",
          refl,
          group_0,
          inl (
            codes "0",
            codes ":0:0:0:0:0",
            refl,
            group_0,
            inl (
              codes "0",
              codes ":0:0:0:0",
              refl,
              group_0,
              inl (
                codes "0",
                codes ":0:0:0",
                refl,
                group_0,
                inl (
                  codes "0",
                  codes ":0:0",
                  refl,
                  group_0,
                  inl (
                    codes "0",
                    codes ":0",
                    refl,
                    group_0,
                    inl (
                      codes "0",
                      codes "",
                      refl,
                      group_0,
                      refl,
                    ),
                  ),
                ),
              ),
            ),
          ),
        ),
      ),
      refl,
    ),
    refl,
    refl,
  );
  whole_short = (
    record { segments = 8193 ∷ 3512 ∷ 0 ∷ 0 ∷ 8 ∷ 2048 ∷ 8204 ∷ 16762 ∷ [] },
    inr (record {
      head_text = codes "2001:DB8";
      tail_text = codes "8:800:200C:417A";
      head = 8193 ∷ 3512 ∷ [];
      tail = 8 ∷ 2048 ∷ 8204 ∷ 16762 ∷ [];
      spelled = refl;
      head_groups = inl (
        codes "2001",
        codes ":DB8",
        refl,
        group_2001,
        inl (
          codes "DB8",
          codes "",
          refl,
          group_db8,
          refl,
        ),
      );
      tail_groups = inl (
        codes "8",
        codes ":800:200C:417A",
        refl,
        group_8,
        inl (
          codes "800",
          codes ":200C:417A",
          refl,
          group_800,
          inl (
            codes "200C",
            codes ":417A",
            refl,
            group_200c,
            inl (
              codes "417A",
              codes "",
              refl,
              group_417a,
              refl,
            ),
          ),
        ),
      );
      room = lit< tt;
      value = refl;
    }),
    refl,
    refl,
  );
  multicast_short = (
    record { segments = 65281 ∷ 0 ∷ 0 ∷ 0 ∷ 0 ∷ 0 ∷ 0 ∷ 257 ∷ [] },
    inr (record {
      head_text = codes "FF01";
      tail_text = codes "101";
      head = 65281 ∷ [];
      tail = 257 ∷ [];
      spelled = refl;
      head_groups = inl (
        codes "FF01",
        codes "",
        refl,
        group_ff01,
        refl,
      );
      tail_groups = inl (
        codes "101",
        codes "",
        refl,
        group_101,
        refl,
      );
      room = lit< tt;
      value = refl;
    }),
    refl,
    refl,
  );
  loopback_short = (
    record { segments = 0 ∷ 0 ∷ 0 ∷ 0 ∷ 0 ∷ 0 ∷ 0 ∷ 1 ∷ [] },
    inr (record {
      head_text = codes "";
      tail_text = codes "1";
      head = [];
      tail = 1 ∷ [];
      spelled = refl;
      head_groups = refl;
      tail_groups = inl (
        codes "1",
        codes "",
        refl,
        group_1,
        refl,
      );
      room = lit< tt;
      value = refl;
    }),
    refl,
    refl,
  );
  unspecified_short = (
    record { segments = 0 ∷ 0 ∷ 0 ∷ 0 ∷ 0 ∷ 0 ∷ 0 ∷ 0 ∷ [] },
    inr (record {
      head_text = codes "";
      tail_text = codes "";
      head = [];
      tail = [];
      spelled = refl;
      head_groups = refl;
      tail_groups = refl;
      room = lit< tt;
      value = refl;
    }),
    refl,
    refl,
  );
  prefix = (
    record { segments = 8193 ∷ 3512 ∷ 0 ∷ 52528 ∷ 0 ∷ 0 ∷ 0 ∷ 0 ∷ [] },
    inr (record {
      head_text = codes "2001:0DB8:0:CD30";
      tail_text = codes "";
      head = 8193 ∷ 3512 ∷ 0 ∷ 52528 ∷ [];
      tail = [];
      spelled = refl;
      head_groups = inl (
        codes "2001",
        codes ":0DB8:0:CD30",
        refl,
        group_2001,
        inl (
          codes "0DB8",
          codes ":0:CD30",
          refl,
          group_0db8,
          inl (
            codes "0",
            codes ":CD30",
            refl,
            group_0,
            inl (
              codes "CD30",
              codes "",
              refl,
              group_cd30,
              refl,
            ),
          ),
        ),
      );
      tail_groups = refl;
      room = lit< tt;
      value = refl;
    }),
    refl,
    refl,
  );
  node = (
    record { segments = 8193 ∷ 3512 ∷ 0 ∷ 52528 ∷ 291 ∷ 17767 ∷ 35243 ∷ 52719 ∷ [] },
    inl (
      inl (
        codes "2001",
        codes ":0DB8:0:CD30:123:4567:89AB:CDEF",
        refl,
        group_2001,
        inl (
          codes "0DB8",
          codes ":0:CD30:123:4567:89AB:CDEF",
          refl,
          group_0db8,
          inl (
            codes "0",
            codes ":CD30:123:4567:89AB:CDEF",
            refl,
            group_0,
            inl (
              codes "CD30",
              codes ":123:4567:89AB:CDEF",
              refl,
              group_cd30,
              inl (
                codes "123",
                codes ":4567:89AB:CDEF",
                refl,
                group_123,
                inl (
                  codes "4567",
                  codes ":89AB:CDEF",
                  refl,
                  group_4567,
                  inl (
                    codes "89AB",
                    codes ":CDEF",
                    refl,
                    group_89ab,
                    inl (
                      codes "CDEF",
                      codes "",
                      refl,
                      group_cdef,
                      refl,
                    ),
                  ),
                ),
              ),
            ),
          ),
        ),
      ),
      refl,
    ),
    refl,
    refl,
  );
  other = (
    record { segments = 8193 ∷ 3512 ∷ 0 ∷ 0 ∷ 0 ∷ 0 ∷ 0 ∷ 52528 ∷ [] },
    inr (record {
      head_text = codes "2001:0DB8";
      tail_text = codes "CD30";
      head = 8193 ∷ 3512 ∷ [];
      tail = 52528 ∷ [];
      spelled = refl;
      head_groups = inl (
        codes "2001",
        codes ":0DB8",
        refl,
        group_2001,
        inl (
          codes "0DB8",
          codes "",
          refl,
          group_0db8,
          refl,
        ),
      );
      tail_groups = inl (
        codes "CD30",
        codes "",
        refl,
        group_cd30,
        refl,
      );
      room = lit< tt;
      value = refl;
    }),
    refl,
    refl,
  );
  dotted = (
    record { octets = 13 ∷ 1 ∷ 68 ∷ 3 ∷ [] },
    record {
      a = 13;
      b = 1;
      c = 68;
      d = 3;
      fit = (lit< tt, lit< tt, lit< tt, lit< tt);
      value = refl;
      spelled = refl;
    },
    refl,
  );
}

-- the prefix 2001:0DB8:0:CD30::/60 of section 2.3
abbrev prefix : Ip
prefix = V6 42540766411283561827476688766981111808

-- the node's address is in it; what the section calls an illegal spelling of it is another address,
-- which is not
pub record ArePrefixes : Type 0 where
  pub itself : share_prefix 60 prefix prefix ≡ true
  pub node : share_prefix 60 prefix (V6 42540766411283561827558674296197598703) ≡ true
  pub other : share_prefix 60 prefix (V6 42540766411282592856903984951653879088) ≡ false
  pub next : share_prefix 60 prefix (V6 42540766411283562122624593946333937664) ≡ false
  pub family : share_prefix 0 (V4 0) (V6 0) ≡ false
  pub all : share_prefix 0 (V4 218186755) (V4 1) ≡ true

pub prefixes : ArePrefixes
prefixes = record {
  itself = refl;
  node = refl;
  other = refl;
  next = refl;
  family = refl;
  all = refl;
}
