mod TextsRead
