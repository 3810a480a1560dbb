mod ReservedWords
